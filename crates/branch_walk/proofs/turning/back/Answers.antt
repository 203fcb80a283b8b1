use Rattle.std.proofs.Common.{arith}
use Rattle.branch_walk.proofs.GoingBack.{at_left}
use Rattle.branch_walk.proofs.turning.back.Goals as goal

pub returns-then-ends_left-clause-left : goal.returns-then-ends_left-clause-left
returns-then-ends_left-clause-left g c =
    let number = c.len.ensures.number in
    let more = c.back-test.true in
    λ _. at_left c.args.base (g.T.View.context c.args.branch.now) (g.T.View.context c.back.branch) c.back.invariant c.requires.base.0 (omega (arith, number, more)) c.ends_left.result c.if-ends_left.true c.ends_left.ensures
