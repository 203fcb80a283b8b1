-- Lists of symbols numbered by first occurrence, and the terms and atoms over a signature.
use Rattle.std.specs.Prelude.{ℕ, Bool, true, false, ◌&&◌, eqb, List, [], ◌∷◌, ◌++◌, slice_get, Option, Some, None, if◌then◌else◌}
use Rattle.std.specs.List.{list_any, position_or_len}
use Rattle.me_terms.specs.LabelEquality.{same_symbol}
use Rattle.me_terms.specs.Terms.{TermValue, Var, App, Arguments, Nil, Cons, AtomValue}
use Rattle.me_terms.specs.Values.{SymbolValue, SignatureValue}
use Rattle.me_terms.specs.Variables.{count}

-- The symbols, with one more at the end where it does not stand among them yet.
abbrev pub with_symbol : List SymbolValue → SymbolValue → List SymbolValue
with_symbol symbols symbol = if list_any (same_symbol symbol) symbols then symbols else symbols ++ symbol ∷ []

-- The place at which a symbol stands first, from 0; the number of symbols where it does not stand among them.
abbrev pub number_of : SymbolValue → List SymbolValue → ℕ
number_of symbol symbols = position_or_len (same_symbol symbol) symbols

-- There is such a symbol, and it takes so many arguments.
abbrev pub takes : Option SymbolValue → ℕ → Bool
takes None n = false
takes (Some symbol) n = eqb symbol.arity n

-- The numbers of the term's functions are those of functions that take so many arguments.
abbrev mutual
  pub is_known : SignatureValue → TermValue → Bool
  is_known signature (Var x) = true
  is_known signature (App f ts) = takes (slice_get signature.functions f) (count ts) && are_known signature ts

  pub are_known : SignatureValue → Arguments → Bool
  are_known signature Nil = true
  are_known signature (Cons t ts) = is_known signature t && are_known signature ts

-- The numbers of the atom's predicate and functions are those of symbols that take so many arguments.
abbrev pub is_known_atom : SignatureValue → AtomValue → Bool
is_known_atom signature a = takes (slice_get signature.predicates a.pred) (count a.args) && are_known signature a.args
