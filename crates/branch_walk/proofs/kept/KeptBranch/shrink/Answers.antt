use Rattle.std.proofs.Common.{◌∷◌, [], length, ap, arith}
use Rattle.branch_walk.proofs.Alongside.{along_less}
use Rattle.branch_walk.proofs.Ends.{longer}
use Rattle.branch_walk.proofs.GoingBack.{taken_off}
use Rattle.branch_walk.proofs.kept.KeptBranch.shrink.Goals as goal

pub keep_first-requires-clause-some : goal.keep_first-requires-clause-some
keep_first-requires-clause-some g c =
    let old = g.T.View.context c.self.inside.branch in
    let new = g.T.View.context c.shrink.new.self in
    let some = rw (← c.self.view_is) at c.requires.some in
    let off = taken_off c.shrink.result old new c.shrink.ensures.taken c.shrink.ensures.alone.0 some in
    let many = ap length off.1 in
    let more = longer new off.0 in
    omega (arith, some, many, more, c.len.ensures.number)

pub keep_first-requires-clause-along : goal.keep_first-requires-clause-along
keep_first-requires-clause-along g c = (_, _, _, c.self.invariant.2, c.len-entries.ensures.few)

pub invariant_of-self : goal.invariant_of-self
invariant_of-self g c =
    let s = c.self.inside in
    let old = g.T.View.context s.branch in
    let new = g.T.View.context c.shrink.new.self in
    let some = rw (← c.self.view_is) at c.requires.some in
    let off = taken_off c.shrink.result old new c.shrink.ensures.taken c.shrink.ensures.alone.0 some in
    let few = c.keep_first.ensures.few in
    let number = c.len.ensures.number in
    let along = c.keep_first.ensures.along s.search.problem.now s.search.bounds.now old c.self.invariant.2 in
    (c.self.invariant.0, c.self.invariant.1, along_less s.search.problem.now s.search.bounds.now old c.keep_first.new.store new (off.0 ∷ []) off.1 (omega (arith, few, number)) along)

pub returns-clause-taken : goal.returns-clause-taken
returns-clause-taken g c =
    let old = g.T.View.context c.self.inside.branch in
    let new = g.T.View.context c.shrink.new.self in
    let some = rw (← c.self.view_is) at c.requires.some in
    rw (← c.self.view_is) (taken_off c.shrink.result old new c.shrink.ensures.taken c.shrink.ensures.alone.0 some)
