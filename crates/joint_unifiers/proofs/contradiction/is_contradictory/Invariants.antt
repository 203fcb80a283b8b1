use Rattle.std.proofs.Common.{ℕ, ◌<◌}
use Rattle.joint_unifiers.specs.Contradiction.{ContradictsAt}
use Rattle.joint_unifiers.proofs.contradiction.is_contradictory.Given as goal

-- No entry before k contradicts the literal.
abbrev pub invariant-loop-k : goal.invariant-loop-k
invariant-loop-k g l = (i : ℕ) → i < l.k → ¬ ContradictsAt (g.V.View.context l.view) i l.lit l.kind
