use Rattle.std.proofs.Common.{length}
use Rattle.branch_core.proofs.gathering.+gather.Given as goal

abbrev pub decreases-gather : goal.decreases-gather
decreases-gather l = length l.parts.now
