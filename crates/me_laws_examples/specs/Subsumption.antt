-- What may be asserted beside one entry that is more general or more special.
use Rattle.std.specs.Prelude.{Bool, true, false, [], ◌∷◌}
use Rattle.me_terms.specs.Terms.{AtomValue}
use Rattle.me_terms.specs.Values.{SplitLeft}
use Rattle.me_terms.specs.Context.{Context, pseudo}
use Rattle.me_terms.specs.Assert.{MayAssert}
use Rattle.me_terms.specs.declared.entry.Kind.{Kind}
use Rattle.me_terms.specs.declared.entry.Kind.TheVariants.{Universal, Parametric}
use Rattle.me_laws_examples.specs.Letters.{x0, x1, p, literal, entry}
use Rattle.me_laws_examples.specs.SmallAnswers.{usual}

abbrev pub wide : AtomValue
wide = p x0 x1

abbrev pub narrow : AtomValue
narrow = p x0 x0

-- the pseudo-literal and an entry of that sign, atom and kind
abbrev pub beside : Bool → AtomValue → Kind → Context
beside positive atom kind = pseudo false ∷ entry positive atom kind SplitLeft ∷ []

-- A Universal entry of the same sign leaves no room for what it generalizes, of either kind, but for what is more general. A Parametric one leaves room for all but a Parametric variant, and one of the other sign for what does not contradict it.
pub record Subsumption : Type 0 where
  pub universal_below : ¬ MayAssert usual (beside true wide Universal) (literal true narrow) Universal
  pub parametric_below : ¬ MayAssert usual (beside true wide Universal) (literal true narrow) Parametric
  pub universal_above : MayAssert usual (beside true narrow Universal) (literal true wide) Universal
  pub parametric_above : MayAssert usual (beside true narrow Universal) (literal true wide) Parametric
  pub below_parametric : MayAssert usual (beside true wide Parametric) (literal true narrow) Parametric
  pub above_parametric : MayAssert usual (beside true narrow Parametric) (literal true wide) Parametric
  pub universal_at_parametric : MayAssert usual (beside true wide Parametric) (literal true wide) Universal
  pub parametric_at_parametric : ¬ MayAssert usual (beside true wide Parametric) (literal true wide) Parametric
  pub other_sign_below : MayAssert usual (beside false wide Parametric) (literal true narrow) Parametric
  pub other_sign_above : MayAssert usual (beside false narrow Universal) (literal true wide) Parametric
  pub contradictory : ¬ MayAssert usual (beside false narrow Universal) (literal true wide) Universal
  pub contradictory_below : ¬ MayAssert usual (beside false wide Universal) (literal true narrow) Parametric
