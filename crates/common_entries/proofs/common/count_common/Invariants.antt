use Rattle.std.proofs.Common.{◌≡◌, take}
use Rattle.common_entries.proofs.common.count_common.Given as goal

abbrev pub invariant-loop-k : goal.invariant-loop-k
invariant-loop-k g l = take l.k (g.V.View.context l.one) ≡ take l.k (g.V.View.context l.other)
