-- What may be asserted beside one entry that is more general or more special.
use Rattle.std.proofs.Common.{◌≡◌, Bool, true, false, refl, arith}
use Rattle.me_terms.specs.Terms.{AtomValue}
use Rattle.me_terms.specs.Substitutions.{Generalizes, IsVariant}
use Rattle.me_terms.specs.Values.{SplitLeft}
use Rattle.me_terms.specs.Context.{IsVisible}
use Rattle.me_terms.specs.Contradictory.{Clash}
use Rattle.me_terms.specs.Fits.{Fits}
use Rattle.me_terms.specs.Assert.{MayAssert}
use Rattle.me_terms.specs.declared.entry.Kind.{Kind}
use Rattle.me_terms.specs.declared.entry.Kind.TheVariants.{Universal, Parametric}
use Rattle.me_terms.specs.declared.atom.Pattern.TheVariants.{Any, Of}
use Rattle.me_laws.proofs.Generality.{generalizes_reflexive}
use Rattle.me_laws_examples.specs.Letters.{x0, x1, p, literal, entry}
use Rattle.me_laws_examples.specs.SmallAnswers.{usual}
use Rattle.me_laws_examples.specs.Subsumption.{wide, narrow, beside, Subsumption}
use Rattle.me_laws_examples.proofs.Short.{each_entry, seen, no_instance}

visible : (positive : Bool) (atom : AtomValue) (kind : Kind) → IsVisible (beside positive atom kind) 1 (entry positive atom kind SplitLeft)
visible positive atom kind = seen (beside positive atom kind) 1 (entry positive atom kind SplitLeft) refl ((λ lt u s g. absurd (omega (arith, lt))), ((λ lt u s g. absurd (omega (arith, lt))), tt))

-- a positive literal may be asserted where the entry neither contradicts nor subsumes it, and is no variant in its way
may : (positive : Bool) (atom : AtomValue) (kind : Kind) (s : AtomValue) (other : Kind) → Fits usual (literal true s) → ¬ Clash Parametric Any other (Of s) → (positive ≡ false → ¬ Clash kind (Of atom) other (Of s)) → (kind ≡ Universal → positive ≡ true → ¬ Generalizes (Of atom) (Of s)) → (other ≡ Parametric → positive ≡ true → ¬ IsVariant (Of atom) (Of s)) → MayAssert usual (beside positive atom kind) (literal true s) other
may positive atom kind s other fits pseudo_apart apart above unlike = record {
  fits = fits;
  consistent = λ h. each_entry (λ k e. e.positive ≡ false → Clash e.kind e.atom other (Of s) → ⊥) (beside positive atom kind) ((λ u c. pseudo_apart c), ((λ u c. apart u c), tt)) h.0 h.1 h.2.0 h.3 h.4;
  not_subsumed = λ h. each_entry (λ k e. e.kind ≡ Universal → e.positive ≡ true → Generalizes e.atom (Of s) → ⊥) (beside positive atom kind) ((λ u v g. cc u), ((λ u v g. above u v g), tt)) h.0 h.1 h.2.0 h.3 h.4 h.5;
  no_variant = λ same h. each_entry (λ k e. e.positive ≡ true → IsVariant e.atom (Of s) → ⊥) (beside positive atom kind) ((λ v g. cc v), ((λ v g. unlike same v g), tt)) h.0 h.1 h.2.0 h.3 h.4;
}

below : Generalizes (Of wide) (Of narrow)
below = (λ x. x0, refl)

not_above : ¬ Generalizes (Of narrow) (Of wide)
not_above g = no_instance (p x0 x0) (p x0 x1) refl g

pub subsumption : Subsumption
subsumption = record {
  universal_below = λ h. h.not_subsumed (1, entry true wide Universal SplitLeft, visible true wide Universal, refl, refl, below);
  parametric_below = λ h. h.not_subsumed (1, entry true wide Universal SplitLeft, visible true wide Universal, refl, refl, below);
  universal_above = may true narrow Universal wide Universal (omega arith, omega arith) (λ c. c) (λ v. cc v) (λ u v g. not_above g) (λ k. cc k);
  parametric_above = may true narrow Universal wide Parametric (omega arith, omega arith) (λ c. c.1) (λ v. cc v) (λ u v g. not_above g) (λ k v g. not_above g.0);
  below_parametric = may true wide Parametric narrow Parametric (omega arith, omega arith) (λ c. c.1) (λ v. cc v) (λ u. cc u) (λ k v g. not_above g.1);
  above_parametric = may true narrow Parametric wide Parametric (omega arith, omega arith) (λ c. c.1) (λ v. cc v) (λ u. cc u) (λ k v g. not_above g.0);
  universal_at_parametric = may true wide Parametric wide Universal (omega arith, omega arith) (λ c. c) (λ v. cc v) (λ u. cc u) (λ k. cc k);
  parametric_at_parametric = λ h. h.no_variant refl (1, entry true wide Parametric SplitLeft, visible true wide Parametric, refl, (generalizes_reflexive (Of wide), generalizes_reflexive (Of wide)));
  other_sign_below = may false wide Parametric narrow Parametric (omega arith, omega arith) (λ c. c.1) (λ v c. not_above c.1) (λ u. cc u) (λ k v. cc v);
  other_sign_above = may false narrow Universal wide Parametric (omega arith, omega arith) (λ c. c.1) (λ v c. not_above c) (λ u v. cc v) (λ k v. cc v);
  contradictory = λ h. h.consistent (1, entry false narrow Universal SplitLeft, visible false narrow Universal, refl, (λ x. x0, λ x. x0, refl));
  contradictory_below = λ h. h.consistent (1, entry false wide Universal SplitLeft, visible false wide Universal, refl, below);
}
