-- Flattening: the clauses without functions over n elements whose models are the n-element models of a problem.
use Rattle.std.specs.Prelude.{ℕ, ◌+◌, ◌^◌, ◌<◌, Bool, true, false, List, [], ◌∷◌, ◌++◌, map, length, slice_get, codes, decimal, Option, Some, None}
use Rattle.std.specs.List.{All, flat_map, range_with_len}
use Rattle.me_terms.specs.Terms.{TermValue, Var, App, Nil, AtomValue, arguments_of, list_of}
use Rattle.me_terms.specs.Variables.{first_ones, place_of}
use Rattle.me_terms.specs.Heads.{symbol_of}
use Rattle.me_terms.specs.Measures.{literals_weight}
use Rattle.me_terms.specs.Values.{SymbolValue, ClauseValue, ProblemValue}
use Rattle.me_terms.specs.declared.atom.Literal.{Literal}
use Rattle.tptp_cnf.specs.Meaning.{word, symbol}
use Rattle.finite_domain.specs.Names.{applied_terms, with_value, named_terms, variable_of}

-- ---- symbols

-- An element is the constant `d` and its number, from 1.
abbrev pub element : ℕ → SymbolValue
element i = symbol (word (codes "d" ++ decimal i)) 0

abbrev pub elements : ℕ → List SymbolValue
elements n = map element (range_with_len 1 n)

-- The function of number j becomes the relation `f` and j, with one more argument for its value.
abbrev pub relation : ℕ → ℕ → SymbolValue
relation j arity = symbol (word (codes "f" ++ decimal j)) (arity + 1)

-- The relations of functions, the first of which has number j.
abbrev pub relations_from : ℕ → List SymbolValue → List SymbolValue
relations_from j [] = []
relations_from j (s ∷ ss) = relation j s.arity ∷ relations_from (j + 1) ss

-- The number of arguments of a symbol that there is.
abbrev pub arity_of : Option SymbolValue → ℕ
arity_of None = 0
arity_of (Some s) = s.arity

-- The predicate of number p becomes `q` and p, with its arguments.
abbrev pub copy_of : List SymbolValue → ℕ → SymbolValue
copy_of predicates p = symbol (word (codes "q" ++ decimal p)) (arity_of (slice_get predicates p))

-- The numbers of the predicates that stand in the clauses, in the order of first occurrence.
abbrev pub order_of : List ClauseValue → List ℕ
order_of clauses = first_ones [] (flat_map (λ c. map (λ l. l.atom.pred) c.literals) clauses)

-- ---- totality

-- The relation of function j, for the variables 0, 1, .. as arguments, and an element as the value. Elements are counted from 0 here.
abbrev pub value_literal : ℕ → ℕ → ℕ → Literal
value_literal j arity k = record {
  positive = true;
  atom = record { pred = j; args = arguments_of (map Var (range_with_len 0 arity) ++ App k Nil ∷ []) };
}

-- Function j has one of n elements as its value.
abbrev pub totality : ℕ → ℕ → ℕ → List Literal
totality n j arity = map (value_literal j arity) (range_with_len 0 n)

-- The same for functions, the first of which has number j.
abbrev pub totalities_from : ℕ → ℕ → List SymbolValue → List (List Literal)
totalities_from n j [] = []
totalities_from n j (s ∷ ss) = totality n j s.arity ∷ totalities_from n (j + 1) ss

-- ---- the clauses of the problem

-- The term's variable is no value of its function for the variables of its arguments.
abbrev pub term_literal : List TermValue → TermValue → Literal
term_literal names t = record {
  positive = false;
  atom = record { pred = symbol_of t; args = arguments_of (map (variable_of names) (with_value t)) };
}

-- The atom with variables as its arguments. Its predicate stands behind as many relations.
abbrev pub own_atom : ℕ → List ℕ → List TermValue → AtomValue → AtomValue
own_atom relations order names a = record { pred = relations + place_of a.pred order; args = arguments_of (map (variable_of names) (list_of a.args)) }

-- The literal with that atom.
abbrev pub own_literal : ℕ → List ℕ → List TermValue → Literal → Literal
own_literal relations order names l = record { positive = l.positive; atom = own_atom relations order names l.atom }

-- A literal for each term, and then the literals of the clause, by the names that these terms get.
abbrev pub flat_literals_by : ℕ → List ℕ → List TermValue → List TermValue → List Literal → List Literal
flat_literals_by relations order terms names literals =
    map (term_literal names) terms ++ map (own_literal relations order names) literals

-- The clause, flattened.
abbrev pub flat_literals : ℕ → List ℕ → List Literal → List Literal
flat_literals relations order literals =
    flat_literals_by relations order (applied_terms literals) (named_terms (applied_terms literals) literals) literals

-- ---- the whole

-- A clause is labelled by `m` and its number.
abbrev pub labelled : ℕ → List Literal → ClauseValue
labelled number literals = record { number = number; label = word (codes "m" ++ decimal number); literals = literals }

-- Clauses, the first of which has this number.
abbrev pub numbered_from : ℕ → List (List Literal) → List ClauseValue
numbered_from number [] = []
numbered_from number (literals ∷ more) = labelled number literals ∷ numbered_from (number + 1) more

-- The literals of all clauses: first that each function has a value, and then those of the problem.
abbrev pub flat_lists : ProblemValue → ℕ → List (List Literal)
flat_lists problem n =
    totalities_from n 0 problem.signature.functions
    ++ map (λ c. flat_literals (length problem.signature.functions) (order_of problem.clauses) c.literals) problem.clauses

-- The problem over n elements.
abbrev pub flat_of : ProblemValue → ℕ → ProblemValue
flat_of problem n = record {
  clauses = numbered_from 1 (flat_lists problem n);
  signature = record {
    functions = elements n;
    predicates = relations_from 0 problem.signature.functions ++ map (copy_of problem.signature.predicates) (order_of problem.clauses);
  };
  c0 = 0;
}

-- What every problem of a file is: so few symbols, clauses, arguments and terms that all that is flattened has numbers of 32 bits.
pub record IsSmall (problem : ProblemValue) : Type 0 where
  pub clauses : length problem.clauses < 2 ^ 31
  pub functions : length problem.signature.functions < 2 ^ 31
  pub predicates : length problem.signature.predicates < 2 ^ 31
  pub arguments : All (λ s. s.arity < 2 ^ 31) problem.signature.functions
  pub weights : All (λ c. literals_weight c.literals < 2 ^ 31) problem.clauses
