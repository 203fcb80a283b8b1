use Rattle.std.proofs.Common.{ℕ, ◌<◌}
use Rattle.assert_rule.specs.AssertedEntries.{FixesAt}
use Rattle.assert_rule.proofs.covering.is_fixed.Given as goal

-- No entry before k generalizes the atom.
abbrev pub invariant-loop-k : goal.invariant-loop-k
invariant-loop-k g l =
    (i : ℕ) → i < l.k → ¬ FixesAt (g.V.View.context l.view) i l.atom
