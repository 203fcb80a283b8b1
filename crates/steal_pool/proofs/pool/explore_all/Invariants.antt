use Rattle.std.proofs.Common.{◌≤◌, length}
use Rattle.steal_pool.specs.Tasks.{IsJobAt}
use Rattle.steal_pool.proofs.pool.explore_all.Given as goal

abbrev pub ghosts-explore_as : goal.ghosts-explore_as
ghosts-explore_as g a = record { is_task = λ path work. IsJobAt (g.E.Explore.path_of a.explorer.now) (g.E.Explore.is_job a.explorer.now) path work × (length path ≤ a.share) }
