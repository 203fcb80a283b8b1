-- Which atoms have a common instance.
use Rattle.std.proofs.Common.{◌≡◌, ◌↔◌, true, sym, ap, ◌∙◌}
use Rattle.me_terms.specs.Terms.{AtomValue}
use Rattle.me_terms.specs.Variables.{are_ground}
use Rattle.me_terms.specs.Substitutions.{Generalizes}
use Rattle.me_terms.specs.Contradictory.{Unifiable}
use Rattle.me_terms.specs.declared.atom.Pattern.{Pattern}
use Rattle.me_terms.specs.declared.atom.Pattern.TheVariants.{Any, Of}
use Rattle.me_laws.proofs.NoContradiction.{ground_atom}

pub apart : (a b : AtomValue) → ¬ (a.pred ≡ b.pred) → ¬ Unifiable (Of a) (Of b)
apart a b differ h = differ (ap (λ (x : AtomValue). x.pred) h.2)

-- against an atom without variables each pattern that unifies generalizes it
pub ground_meets : (p : Pattern) (b : AtomValue) → are_ground b.args ≡ true → Unifiable p (Of b) ↔ Generalizes p (Of b)
ground_meets Any b ground = (λ h. tt, λ h. tt)
ground_meets (Of a) b ground = (λ h. (h.0, h.2 ∙ ground_atom h.1 b ground), λ h. (h.0, h.0, h.1 ∙ sym (ground_atom h.0 b ground)))
