-- The clause p(X), beside the parametric p(X0).
use Rattle.std.proofs.Common.{◌≡◌, true, false, [], ◌∷◌, refl, arith}
use Rattle.me_terms.specs.Values.{EntryValue}
use Rattle.me_terms.specs.Context.{IsVisible}
use Rattle.me_terms.specs.Contradictory.{Clash}
use Rattle.me_laws.specs.Pairing.{apart}
use Rattle.me_terms.specs.declared.entry.Kind.TheVariants.{Universal}
use Rattle.me_terms.specs.declared.atom.Pattern.TheVariants.{Of}
use Rattle.me_laws.proofs.Generality.{generalizes_reflexive}
use Rattle.me_laws_examples.specs.Letters.{x0, p_of, literal}
use Rattle.me_laws_examples.specs.SmallAnswers.{clause_of}
use Rattle.me_laws_examples.specs.Sharpening.{beside, parametric_p, universal_p, Sharpening}
use Rattle.me_laws_examples.proofs.Short.{each_entry, seen, skipped_opposite, skipped_unifier}

pub last_visible : (e : EntryValue) → IsVisible (beside e) 1 e
last_visible e = seen (beside e) 1 e refl ((λ lt u s g. absurd (omega (arith, lt))), ((λ lt u s g. absurd (omega (arith, lt))), tt))

pub sharpening : Sharpening
sharpening = record {
  universal = record {
    clause = clause_of (literal true (p_of x0) ∷ []);
    literal = literal true (p_of x0);
    family = apart;
    clause_at = refl;
    literal_at = refl;
    unifier = record { opposite = skipped_opposite (beside parametric_p) (literal true (p_of x0)); unifier = skipped_unifier (beside parametric_p) (literal true (p_of x0)) };
    no_remainder = refl;
    entry = refl;
    allowed = record {
      fits = (omega arith, omega arith);
      consistent = λ h. each_entry (λ k e. e.positive ≡ false → Clash e.kind e.atom Universal (Of (p_of x0)) → ⊥) (beside parametric_p) ((λ s g. g), ((λ s g. cc s), tt)) h.0 h.1 h.2.0 h.3 h.4;
      not_subsumed = λ h. each_entry (λ k e. e.kind ≡ Universal → ⊥) (beside parametric_p) ((λ u. cc u), ((λ u. cc u), tt)) h.0 h.1 h.2.0 h.3;
      no_variant = λ g. cc g;
    };
  };
  parametric = λ may. may.no_variant refl (1, parametric_p, last_visible parametric_p, refl, (generalizes_reflexive (Of (p_of x0)), generalizes_reflexive (Of (p_of x0))));
  again = λ may. may.not_subsumed (1, universal_p, last_visible universal_p, refl, refl, generalizes_reflexive (Of (p_of x0)));
  weaker = λ may. may.not_subsumed (1, universal_p, last_visible universal_p, refl, refl, generalizes_reflexive (Of (p_of x0)));
}
