-- Terms that get variables of their own: which they are, and their numbers.
use Rattle.std.specs.Prelude.{ℕ, List, [], ◌∷◌, ◌++◌, if◌then◌else◌}
use Rattle.std.specs.List.{list_any, position_or_len, flat_map}
use Rattle.me_terms.specs.Terms.{TermValue, Var, App, Arguments, Nil, Cons, list_of}
use Rattle.me_terms.specs.TermEquality.{same_term}
use Rattle.me_terms.specs.Heads.{arguments_in}
use Rattle.me_terms.specs.declared.atom.Literal.{Literal}

-- The terms that are no variables, a term before its arguments, as often as they stand.
abbrev mutual
  pub applied_in : TermValue → List TermValue
  applied_in (Var x) = []
  applied_in (App f ts) = App f ts ∷ applied_in_all ts

  pub applied_in_all : Arguments → List TermValue
  applied_in_all Nil = []
  applied_in_all (Cons t ts) = applied_in t ++ applied_in_all ts

-- The terms behind those that are there, each once, in the order of first occurrence.
abbrev pub first_terms : List TermValue → List TermValue → List TermValue
first_terms seen [] = seen
first_terms seen (t ∷ ts) = if list_any (same_term t) seen then first_terms seen ts else first_terms (seen ++ t ∷ []) ts

-- The different terms of a clause that are no variables.
abbrev pub applied_terms : List Literal → List TermValue
applied_terms literals = first_terms [] (flat_map (λ l. applied_in_all l.atom.args) literals)

-- A term's arguments, and then the term itself.
abbrev pub with_value : TermValue → List TermValue
with_value t = list_of (arguments_in t) ++ t ∷ []

-- The different terms that stand where a flattened clause has variables, in the order of first occurrence: those of the terms' own literals, and those of the clause's.
abbrev pub named_terms : List TermValue → List Literal → List TermValue
named_terms terms literals = first_terms [] (flat_map with_value terms ++ flat_map (λ l. list_of l.atom.args) literals)

-- The variable of a term is the term's place among those that are named.
abbrev pub variable_of : List TermValue → TermValue → TermValue
variable_of names t = Var (position_or_len (same_term t) names)
