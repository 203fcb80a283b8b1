use Rattle.std.proofs.Common.{◌∙◌, Option, Some, ℕ, ap, refl}
use Rattle.kept_asserts.proofs.Opposed.{opposes_some, opposes_none}
use Rattle.kept_asserts.proofs.opposing.opposes_at.Goals as goal

pub returns-in-Some : goal.returns-in-Some
returns-in-Some g c =
    opposes_some (g.V.View.context c.args.view.now) c.args.literal.now _ c.in-Some.k c.opposes.result (c.position_at.ensures ∙ ap (λ (z : Option ℕ). Some z) c.in-Some.is) c.opposes.ensures

pub returns-in-None : goal.returns-in-None
returns-in-None g c =
    let none = opposes_none (g.V.View.context c.args.view.now) c.args.literal.now _ (c.position_at.ensures ∙ ap (λ (z : Option ℕ). Some z) c.in-None.is) in
    ((λ t. none), (λ h. refl))
