use Rattle.std.proofs.Common.{take, drop, take-append-drop, sym, arith}
use Rattle.std.proofs.lemmas.List.{length-take-le}
use Rattle.branch_walk.proofs.Alongside.{along_less}
use Rattle.branch_walk.proofs.kept.KeptBranch.shrink_to.Goals as goal

pub keep_first-requires-clause-along : goal.keep_first-requires-clause-along
keep_first-requires-clause-along g c = (_, _, _, c.self.invariant.2, c.len-entries.ensures.few)

pub invariant_of-self : goal.invariant_of-self
invariant_of-self g c =
    let s = c.self.inside in
    let old = g.T.View.context s.branch in
    let base = c.args.base in
    let within = rw (← c.self.view_is) at c.requires.base in
    let long = length-take-le base old within.1 in
    let parts = sym (take-append-drop base old) in
    let is = c.shrink_to.ensures (take base old) (drop base old) parts long in
    let few = c.keep_first.ensures.few in
    let along = c.keep_first.ensures.along s.search.problem.now s.search.bounds.now old c.self.invariant.2 in
    rw is (c.self.invariant.0, c.self.invariant.1, along_less s.search.problem.now s.search.bounds.now old c.keep_first.new.store (take base old) (drop base old) parts (omega (arith, few, long)) along)
