-- How much is left to drop of a list of terms, whose last term is taken first.
use Rattle.std.specs.Prelude.{ℕ, ◌+◌}
use Rattle.me_terms.specs.Terms.{TermValue, Var, App, Arguments, Nil, Cons}

-- behind another term, a term with arguments is also put back once, with what is before it inside
abbrev mutual
  pub later_work : TermValue → ℕ
  later_work (Var x) = 1
  later_work (App f ts) = 2 + later_works ts

  pub later_works : Arguments → ℕ
  later_works Nil = 0
  later_works (Cons t ts) = later_work t + later_works ts

abbrev mutual
  pub first_work : TermValue → ℕ
  first_work (Var x) = 1
  first_work (App f ts) = 1 + drop_work ts

  pub drop_work : Arguments → ℕ
  drop_work Nil = 0
  drop_work (Cons t ts) = first_work t + later_works ts
