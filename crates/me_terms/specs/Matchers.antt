-- A match of one term against another, as it is found with no memory: what stands where a variable first stands is its value.
use Rattle.std.specs.Prelude.{ℕ, Bool, true, false, ◌&&◌, eqb, Option, Some, None, if◌then◌else◌}
use Rattle.me_terms.specs.Terms.{TermValue, Var, App, Arguments, Nil, Cons}
use Rattle.me_terms.specs.TermEquality.{same_term}

abbrev pub or_later : Option TermValue → Option TermValue → Option TermValue
or_later None later = later
or_later (Some t) later = Some t

abbrev mutual
  pub found : ℕ → TermValue → TermValue → Option TermValue
  found x (Var y) t = if eqb y x then Some t else None
  found x (App f ss) (Var y) = None
  found x (App f ss) (App g ts) = found_all x ss ts

  pub found_all : ℕ → Arguments → Arguments → Option TermValue
  found_all x Nil ts = None
  found_all x (Cons s ss) Nil = None
  found_all x (Cons s ss) (Cons t ts) = or_later (found x s t) (found_all x ss ts)

abbrev pub is_value : Option TermValue → TermValue → Bool
is_value None t = false
is_value (Some u) t = same_term u t

-- Each variable of the first has the value that b gives it.
abbrev mutual
  pub agrees : (ℕ → Option TermValue) → TermValue → TermValue → Bool
  agrees b (Var x) t = is_value (b x) t
  agrees b (App f ss) (Var y) = false
  agrees b (App f ss) (App g ts) = eqb f g && agree b ss ts

  pub agree : (ℕ → Option TermValue) → Arguments → Arguments → Bool
  agree b Nil Nil = true
  agree b Nil (Cons t ts) = false
  agree b (Cons s ss) Nil = false
  agree b (Cons s ss) (Cons t ts) = agrees b s t && agree b ss ts
