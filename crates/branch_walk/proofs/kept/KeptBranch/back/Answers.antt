use Rattle.std.proofs.Common.{arith}
use Rattle.branch_walk.proofs.Alongside.{along_less, went_back}
use Rattle.branch_walk.proofs.kept.KeptBranch.back.Goals as goal

pub back-found-requires : goal.back-found-requires
back-found-requires g c = record { base = rw (← c.self.view_is) at c.requires.base }

pub keep_first-requires-clause-some : goal.keep_first-requires-clause-some
keep_first-requires-clause-some g c =
    let went = went_back c.args.base c.back-found.result (g.T.View.context c.self.inside.branch) (g.T.View.context c.back-found.new.branch) c.back-found.ensures.left c.back-found.ensures.none in
    omega (arith, went.2, c.requires.base.0, c.len.ensures.number)

pub keep_first-requires-clause-along : goal.keep_first-requires-clause-along
keep_first-requires-clause-along g c = (_, _, _, c.self.invariant.2, c.len-entries.ensures.few)

pub invariant_of-self : goal.invariant_of-self
invariant_of-self g c =
    let s = c.self.inside in
    let old = g.T.View.context s.branch in
    let new = g.T.View.context c.back-found.new.branch in
    let went = went_back c.args.base c.back-found.result old new c.back-found.ensures.left c.back-found.ensures.none in
    let few = c.keep_first.ensures.few in
    let number = c.len.ensures.number in
    let along = c.keep_first.ensures.along s.search.problem.now s.search.bounds.now old c.self.invariant.2 in
    (c.self.invariant.0, c.self.invariant.1, along_less s.search.problem.now s.search.bounds.now old c.keep_first.new.store new went.0 went.1 (omega (arith, few, number)) along)
