use Rattle.std.proofs.Common.{◌-◌, length}
use Rattle.branch_walk.proofs.turning.Search.+spine.Given as goal

abbrev pub decreases-spine : goal.decreases-spine
decreases-spine g l = l.share - length l.path
