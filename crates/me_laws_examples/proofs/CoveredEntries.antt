-- Which entries a Universal one covers.
use Rattle.std.proofs.Common.{refl}
use Rattle.me_laws.proofs.Generality.{generalizes_reflexive}
use Rattle.me_laws_examples.specs.Letters.{a, x0, x1, p}
use Rattle.me_laws_examples.specs.CoveredEntries.{of_all_pairs, CoveredEntries}
use Rattle.me_laws_examples.proofs.HiddenEntry.{first_then}
use Rattle.me_laws_examples.proofs.Short.{no_instance}

pub covered_entries : CoveredEntries
unfolding first_then
covered_entries = record {
  less_general = λ kind why. record { is_universal = refl; same_sign = refl; generalizes = (first_then a x0, refl) };
  itself = record { is_universal = refl; same_sign = refl; generalizes = generalizes_reflexive of_all_pairs.atom };
  variant = record { is_universal = refl; same_sign = refl; generalizes = (λ x. x1, refl) };
  other_sign = λ h. let signs = h.same_sign in cc signs;
  more_general = λ h. no_instance (p a x0) (p x0 x1) refl h.generalizes;
  no_pseudo = λ h. h.generalizes;
  by_parametric = λ positive atom why e h. let kinds = h.is_universal in cc kinds;
  by_pseudo = λ positive e h. let kinds = h.is_universal in cc kinds;
}
