use Rattle.branch_walk.proofs.Alongside.{along_grown}
use Rattle.branch_walk.proofs.kept.KeptBranch.grow.Goals as goal

pub invariant_of-self : goal.invariant_of-self
invariant_of-self g c =
    let s = c.self.inside in
    (c.self.invariant.0, c.self.invariant.1, along_grown s.search.problem.now s.search.bounds.now (g.T.View.context s.branch) s.store (g.T.View.context c.extend.new.branch) c.args.entry c.extend.result c.extend.ensures.ok c.extend.ensures.err c.self.invariant.2)
