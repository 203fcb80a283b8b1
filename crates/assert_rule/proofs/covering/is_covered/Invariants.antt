use Rattle.std.proofs.Common.{ℕ, ◌<◌}
use Rattle.assert_rule.specs.AssertedEntries.{CoversAt}
use Rattle.assert_rule.proofs.covering.is_covered.Given as goal

-- No entry before k covers the literal.
abbrev pub invariant-loop-k : goal.invariant-loop-k
invariant-loop-k g l =
    (i : ℕ) → i < l.k → ¬ CoversAt (g.V.View.context l.view) i l.lit l.kind
