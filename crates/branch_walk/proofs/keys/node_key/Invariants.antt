use Rattle.std.proofs.Common.{◌≡◌, take}
use Rattle.branch_walk.specs.Jobs.{turns_taken}
use Rattle.branch_walk.proofs.keys.node_key.Given as goal

abbrev pub invariant-loop-k : goal.invariant-loop-k
invariant-loop-k g l = l.path ≡ turns_taken (take l.k (g.V.View.context l.branch))
