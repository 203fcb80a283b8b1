use Rattle.branch_walk.proofs.Alongside.{along_start}
use Rattle.branch_walk.proofs.kept.KeptBranch.new.Goals as goal

pub invariant_of-result : goal.invariant_of-result
invariant_of-result g c = (c.requires.valid, c.requires.bounds, along_start c.args.search.now.problem.now c.args.search.now.bounds.now (g.T.View.context c.args.branch) c.in_ok-store.store c.requires.grown c.in_ok-store.ensures)
