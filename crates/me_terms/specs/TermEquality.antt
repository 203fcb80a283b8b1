-- Whether two terms are equal, as a test that computes.
use Rattle.std.specs.Prelude.{Bool, true, false, ◌&&◌, eqb}
use Rattle.me_terms.specs.Terms.{TermValue, Var, App, Arguments, Nil, Cons, AtomValue}

abbrev mutual
  pub same_term : TermValue → TermValue → Bool
  same_term (Var x) (Var y) = eqb x y
  same_term (Var x) (App g ts) = false
  same_term (App f ss) (Var y) = false
  same_term (App f ss) (App g ts) = eqb f g && same_arguments ss ts

  pub same_arguments : Arguments → Arguments → Bool
  same_arguments Nil Nil = true
  same_arguments Nil (Cons t ts) = false
  same_arguments (Cons s ss) Nil = false
  same_arguments (Cons s ss) (Cons t ts) = same_term s t && same_arguments ss ts

abbrev pub same_atom : AtomValue → AtomValue → Bool
same_atom a b = eqb a.pred b.pred && same_arguments a.args b.args
