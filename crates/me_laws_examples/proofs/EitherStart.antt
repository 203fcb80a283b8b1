-- What the two contexts in which a search can begin make true.
use Rattle.std.proofs.Common.{◌≡◌, true, ◌⊎◌, inl, inr, refl}
use Rattle.me_terms.specs.Terms.{AtomValue}
use Rattle.me_terms.specs.Substitutions.{IsStrictlyMoreGeneral}
use Rattle.me_terms.specs.Context.{pseudo}
use Rattle.me_terms.specs.Produces.{HasException, Produces, IsInduced}
use Rattle.me_terms.specs.Grown.{sign_of, start}
use Rattle.me_terms.specs.declared.bounds.Start.{Start}
use Rattle.me_terms.specs.declared.bounds.Start.TheVariants.{Negative, Positive}
use Rattle.me_terms.specs.declared.entry.Kind.TheVariants.{Universal, Parametric}
use Rattle.me_terms.specs.declared.atom.Pattern.TheVariants.{Any}
use Rattle.me_laws.proofs.Generality.{strictly_irreflexive}
use Rattle.me_laws_examples.specs.Letters.{literal}
use Rattle.me_laws_examples.specs.EitherStart.{EitherStart}
use Rattle.me_laws_examples.proofs.Short.{seen, of_start}

free : (begins : Start) (atom : AtomValue) → ¬ HasException (start begins) (pseudo (sign_of begins)) atom
free begins atom ex =
    of_start begins (λ j f. (f.kind ≡ Universal) ⊎ ((f.kind ≡ Parametric) × IsStrictlyMoreGeneral Any f.atom) → ⊥)
    (λ r. elim r as (λ _. ⊥) [ inl u ↦ cc u | inr w ↦ strictly_irreflexive Any w.1 ])
    ex.0 ex.1 ex.2.0 ex.4

by_default : (begins : Start) (atom : AtomValue) → Produces (start begins) 0 (pseudo (sign_of begins)) (literal (sign_of begins) atom)
by_default begins atom = record { visible = seen (start begins) 0 (pseudo (sign_of begins)) refl ((λ lt u s g. cc u), tt); same_sign = refl; generalizes = tt; undisputed = inr (λ ex. free begins atom ex) }

pub induced : (atom : AtomValue) → IsInduced (start Positive) atom
induced atom = (0, pseudo true, by_default Positive atom)

pub not_induced : (atom : AtomValue) → ¬ IsInduced (start Negative) atom
not_induced atom h = of_start Negative (λ k e. e.positive ≡ true → ⊥) (λ s. cc s) h.0 h.1 h.2.visible.0 h.2.same_sign

pub either_start : EitherStart
either_start = record {
  by_default = by_default;
  positive_induces = induced;
  negative_induces_none = not_induced;
  positive_true = induced;
  positive_not_false = λ atom h. h (induced atom);
  negative_false = not_induced;
  negative_not_true = not_induced;
}
