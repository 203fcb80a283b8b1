-- Ground terms over the first functions of a signature.
use Rattle.std.specs.Prelude.{ℕ, Bool, true, false, ◌&&◌, ltb}
use Rattle.me_terms.specs.Terms.{TermValue, Var, App, Arguments, Nil, Cons}

-- The term has no variables, and the numbers of its functions are below this one.
abbrev mutual
  pub is_own_term : ℕ → TermValue → Bool
  is_own_term n (Var x) = false
  is_own_term n (App f ts) = ltb f n && are_own_terms n ts

  pub are_own_terms : ℕ → Arguments → Bool
  are_own_terms n Nil = true
  are_own_terms n (Cons t ts) = is_own_term n t && are_own_terms n ts
