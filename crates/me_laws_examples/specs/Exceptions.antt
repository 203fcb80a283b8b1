-- Which exceptions Parametric entries have, among four entries beside the pseudo-literal.
use Rattle.std.specs.Prelude.{true, false, [], ◌∷◌}
use Rattle.me_terms.specs.Terms.{TermValue, App, Nil}
use Rattle.me_terms.specs.Values.{EntryValue, SplitLeft}
use Rattle.me_terms.specs.Context.{Context, pseudo}
use Rattle.me_terms.specs.Produces.{Produces}
use Rattle.me_terms.specs.declared.entry.Kind.TheVariants.{Universal, Parametric}
use Rattle.me_laws_examples.specs.Letters.{a, b, x0, x1, p, literal, entry}

abbrev pub c : TermValue
c = App 2 Nil

abbrev pub widest : EntryValue
widest = entry true (p x0 x1) Parametric SplitLeft

abbrev pub below_a : EntryValue
below_a = entry true (p a x0) Parametric SplitLeft

abbrev pub at_b : EntryValue
at_b = entry true (p b b) Universal SplitLeft

abbrev pub second_b : EntryValue
second_b = entry false (p x0 b) Parametric SplitLeft

abbrev pub five : Context
five = pseudo false ∷ widest ∷ below_a ∷ at_b ∷ second_b ∷ []

-- A Universal entry and a more specific Parametric one are exceptions, of the same sign and of the other. A more general one is none, and neither is one beside: p(a,b) and ~p(a,b) are both produced. A Universal entry has no exceptions, and a hidden one produces nothing.
pub record Exceptions : Type 0 where
  pub undisputed : Produces five 1 widest (literal true (p b a))
  pub by_same_sign : ¬ Produces five 1 widest (literal true (p a a))
  pub by_universal : ¬ Produces five 1 widest (literal true (p b b))
  pub by_other_sign : ¬ Produces five 1 widest (literal true (p c b))
  pub specific : Produces five 2 below_a (literal true (p a a))
  pub beside : Produces five 2 below_a (literal true (p a b))
  pub other_beside : Produces five 4 second_b (literal false (p a b))
  pub universal : Produces five 3 at_b (literal true (p b b))
  pub by_universal_of_other_sign : ¬ Produces five 4 second_b (literal false (p b b))
  pub not_of_other_sign : ¬ Produces five 3 at_b (literal false (p b b))
  pub no_instance : ¬ Produces five 2 below_a (literal true (p b a))
  pub hidden : ¬ Produces (pseudo false ∷ at_b ∷ entry true (p x0 x1) Universal SplitLeft ∷ []) 1 at_b (literal true (p b b))
