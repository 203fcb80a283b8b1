use Rattle.std.proofs.Common.{length}
use Rattle.branch_walk.proofs.GoingBack.{Shrinks}
use Rattle.branch_walk.proofs.turning.shrink_to.Given as goal

abbrev pub invariant-back : goal.invariant-back
invariant-back g l = Shrinks l.base (g.T.View.context l.initial.branch) (g.T.View.context l.branch)

abbrev pub decreases-back : goal.decreases-back
decreases-back g l = length (g.T.View.context l.branch)
