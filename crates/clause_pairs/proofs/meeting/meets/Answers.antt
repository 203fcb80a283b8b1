use Rattle.std.proofs.Common.{sym, ◌∙◌}
use Rattle.clause_pairs.proofs.Meets.{ground_meets}
use Rattle.clause_pairs.proofs.meeting.meets.Goals as goal

pub returns-then-is_apart : goal.returns-then-is_apart
returns-then-is_apart c = (λ t. absurd (cc t), λ h. absurd (c.is_apart.ensures c.if-is_apart.true h))

pub returns-then-is_ground : goal.returns-then-is_ground
returns-then-is_ground c =
    let iff = ground_meets c.args.atom.now c.args.literal.now.atom (sym c.is_ground.ensures ∙ c.if-is_ground.true) in
    (λ t. iff.1 (c.matches.ensures.0 t), λ h. c.matches.ensures.1 (iff.0 h))

pub returns-in-Of : goal.returns-in-Of
returns-in-Of c = rw c.in-Of.is c.unifies.ensures
