-- Which problems are valid.
use Rattle.std.specs.Prelude.{ℕ, ◌-◌, ◌^◌, ◌<◌, true, false, List, [], ◌∷◌, ◌++◌, replicate}
use Rattle.me_terms.specs.Terms.{TermValue, App, Nil, Cons, AtomValue}
use Rattle.me_terms.specs.Values.{LabelValue, SymbolValue, ClauseValue, ProblemValue}
use Rattle.me_terms.specs.Validity.{IsValid}
use Rattle.me_terms.specs.declared.symbol.Form.{Form}
use Rattle.me_terms.specs.declared.symbol.Form.TheVariants.{Distinct, Number}
use Rattle.me_terms.specs.declared.atom.Literal.{Literal}
use Rattle.me_laws_examples.specs.Letters.{x0, x1, p_of, q_of, literal, word}
use Rattle.me_laws_examples.specs.SmallAnswers.{clause_of}

-- a label of that form with a digit as its text
abbrev pub digit : Form → LabelValue
digit form = record { form = form; text = 49 ∷ [] }

abbrev pub symbol : LabelValue → ℕ → SymbolValue
symbol label arity = record { label = label; arity = arity }

-- f of one argument, and the distinct object "1"
abbrev pub functions : List SymbolValue
functions = symbol (word 102) 1 ∷ symbol (digit Distinct) 0 ∷ []

-- p of one argument
abbrev pub predicates : List SymbolValue
predicates = symbol (word 112) 1 ∷ []

abbrev pub problem_of : List SymbolValue → List SymbolValue → List ClauseValue → ℕ → ProblemValue
problem_of functions predicates clauses c0 = record { clauses = clauses; signature = record { functions = functions; predicates = predicates }; c0 = c0 }

-- one clause of these literals over f, "1" and p
abbrev pub one_clause : List Literal → ProblemValue
one_clause literals = problem_of functions predicates (clause_of literals ∷ []) 1

-- the function of that number, without arguments and with one
abbrev pub alone : ℕ → TermValue
alone f = App f Nil

abbrev pub of_one : ℕ → TermValue → TermValue
of_one f t = App f (Cons t Nil)

-- p without arguments
abbrev pub bare : AtomValue
bare = record { pred = 0; args = Nil }

-- the clause of that label and no literal
abbrev pub named : LabelValue → ClauseValue
named label = record { number = 1; label = label; literals = [] }

-- Variables are numbered from 0 by first occurrence in a clause, symbols stand in the signature and take as many arguments as it says, labels can be read, c0 is a constant, and there are fewer than 2^32 - 1 clauses, and literals in a clause.
pub record ValidProblems : Type 0 where
  pub valid : IsValid (one_clause (literal true (p_of x0) ∷ literal false (p_of x1) ∷ literal true (p_of (of_one 0 x0)) ∷ literal true (p_of (alone 1)) ∷ []))
  pub empty_clause : IsValid (one_clause [])
  pub no_clauses : IsValid (problem_of functions predicates [] 1)
  pub not_from_zero : ¬ IsValid (one_clause (literal true (p_of x1) ∷ []))
  pub wrong_order : ¬ IsValid (one_clause (literal true (p_of x1) ∷ literal true (p_of x0) ∷ []))
  pub unknown_predicate : ¬ IsValid (one_clause (literal true (q_of (alone 1)) ∷ []))
  pub unknown_function : ¬ IsValid (one_clause (literal true (p_of (of_one 2 (alone 1))) ∷ []))
  pub bare_predicate : ¬ IsValid (one_clause (literal true bare ∷ []))
  pub bare_function : ¬ IsValid (one_clause (literal true (p_of (of_one 0 (alone 0))) ∷ []))
  pub c0_takes_one : ¬ IsValid (problem_of functions predicates [] 0)
  pub c0_unknown : ¬ IsValid (problem_of functions predicates [] 2)
  pub numbered_clause : IsValid (problem_of functions predicates (named (digit Number) ∷ []) 1)
  pub distinct_clause : ¬ IsValid (problem_of functions predicates (named (digit Distinct) ∷ []) 1)
  pub numbered_function : ¬ IsValid (problem_of (functions ++ symbol (digit Number) 0 ∷ []) predicates [] 1)
  pub distinct_function : ¬ IsValid (problem_of (functions ++ symbol (digit Distinct) 1 ∷ []) predicates [] 1)
  pub distinct_predicate : ¬ IsValid (problem_of functions (symbol (digit Distinct) 0 ∷ []) [] 1)
  pub clauses : (n : ℕ) → n < 2 ^ 32 - 1 → IsValid (problem_of functions predicates (replicate n (clause_of [])) 1)
  pub too_many_clauses : (n : ℕ) → ¬ (n < 2 ^ 32 - 1) → ¬ IsValid (problem_of functions predicates (replicate n (clause_of [])) 1)
  pub literals : (n : ℕ) → n < 2 ^ 32 - 1 → IsValid (one_clause (replicate n (literal true (p_of (alone 1)))))
  pub too_many_literals : (n : ℕ) → ¬ (n < 2 ^ 32 - 1) → ¬ IsValid (one_clause (replicate n (literal true (p_of (alone 1)))))
