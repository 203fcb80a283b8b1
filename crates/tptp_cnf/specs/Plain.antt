-- Which problems are written as a file that means them again.
use Rattle.std.specs.Prelude.{◌≡◌, ◌≤◌, ℕ, ◌+◌, ◌-◌, List, [], ◌∷◌, ◌++◌, length, slice_get, option_to_list}
use Rattle.std.specs.List.{AllByRecursion, position_or_len, flat_map}
use Rattle.me_terms.specs.Measures.{literal_depth}
use Rattle.me_terms.specs.Terms.{TermValue, Var, App, Arguments, Nil, Cons}
use Rattle.me_terms.specs.Validity.{clause_variables, IsValid}
use Rattle.me_terms.specs.Values.{SymbolValue, ClauseValue, ProblemValue}
use Rattle.me_terms.specs.Variables.{first_ones}
use Rattle.tptp_grammar.specs.declared.limits.TheConstants.{MAX_FORMULAS, MAX_LITERALS, MAX_VARIABLES, MAX_ARGUMENTS, MAX_BRACKETS}
use Rattle.tptp_cnf.specs.Meaning.{with_symbols, is_constant, with_constant}

-- the numbers of the functions, as often as they stand, each before its arguments
abbrev mutual
  pub term_function_numbers : TermValue → List ℕ
  term_function_numbers (Var x) = []
  term_function_numbers (App f ts) = f ∷ function_numbers ts

  pub function_numbers : Arguments → List ℕ
  function_numbers Nil = []
  function_numbers (Cons t ts) = term_function_numbers t ++ function_numbers ts

-- the symbols with these numbers
abbrev pub symbols_at : List SymbolValue → List ℕ → List SymbolValue
symbols_at symbols numbers = flat_map (λ n. option_to_list (slice_get symbols n)) numbers

-- the numbers of the functions and the predicates of clauses, as often as they stand
abbrev pub clauses_functions : List ClauseValue → List ℕ
clauses_functions clauses = flat_map (λ c. flat_map (λ l. function_numbers l.atom.args) c.literals) clauses

abbrev pub clauses_predicates : List ClauseValue → List ℕ
clauses_predicates clauses = flat_map (λ c. flat_map (λ l. l.atom.pred ∷ []) c.literals) clauses

-- the clauses have the numbers from this one on
abbrev pub HasNumbersFrom : ℕ → List ClauseValue → Type 0
HasNumbersFrom n [] = Unit {0}
HasNumbersFrom n (c ∷ cs) = (c.number ≡ n) × HasNumbersFrom (n + 1) cs

-- A clause within the limits of a formula. A bracket is open round the formula, and one round each list of arguments.
pub record IsWithinLimits (clause : ClauseValue) : Type 0 where
  pub literals : length clause.literals ≤ MAX_LITERALS
  pub variables : length (first_ones [] (clause_variables clause.literals)) ≤ MAX_VARIABLES
  pub nesting : AllByRecursion (λ l. literal_depth l ≤ MAX_BRACKETS - 1) clause.literals

-- A valid problem whose clauses are numbered 1, 2, .., whose symbols are those that occur, by first occurrence, with c0 as the last function where no other is a constant, and that is within the limits of a file.
pub record IsPlain (problem : ProblemValue) : Type 0 where
  pub valid : IsValid problem
  pub numbers : HasNumbersFrom 1 problem.clauses
  pub functions : problem.signature.functions ≡ with_constant (with_symbols [] (symbols_at problem.signature.functions (clauses_functions problem.clauses)))
  pub predicates : problem.signature.predicates ≡ with_symbols [] (symbols_at problem.signature.predicates (clauses_predicates problem.clauses))
  pub constant : problem.c0 ≡ position_or_len is_constant problem.signature.functions
  pub few_clauses : length problem.clauses ≤ MAX_FORMULAS
  pub within : AllByRecursion IsWithinLimits problem.clauses
  pub arguments : AllByRecursion (λ s. s.arity ≤ MAX_ARGUMENTS) problem.signature.functions
  pub predicate_arguments : AllByRecursion (λ s. s.arity ≤ MAX_ARGUMENTS) problem.signature.predicates
