use Rattle.std.proofs.Common.{◌≡◌, take}
use Rattle.branch_walk.proofs.entries.entries_of.Given as goal

abbrev pub invariant-loop-k : goal.invariant-loop-k
invariant-loop-k g l = l.entries.items ≡ take l.k (g.V.View.context l.view)
