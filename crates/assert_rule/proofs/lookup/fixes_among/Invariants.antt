use Rattle.std.proofs.Common.{take}
use Rattle.std.specs.List.{All}
use Rattle.assert_rule.specs.AssertedEntries.{FixesAt}
use Rattle.assert_rule.proofs.lookup.fixes_among.Given as goal

-- At none of the positions so far.
abbrev pub invariant-loop-k : goal.invariant-loop-k
invariant-loop-k g l = All (λ i. FixesAt (g.V.View.context l.view) i l.atom → ⊥) (take l.k-index l.positions)
