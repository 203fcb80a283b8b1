use Rattle.std.proofs.Common.{arith}
use Rattle.branch_walk.proofs.GoingBack.{shrinks_more, taken_off}
use Rattle.branch_walk.proofs.turning.shrink_to.Goals as goal

pub back-preserved : goal.back-preserved
back-preserved g c =
    let now = g.T.View.context c.back.branch in
    let new = g.T.View.context c.shrink.new.self in
    let number = c.len.ensures.number in
    let more = c.back-test.true in
    let some = c.requires.base in
    let off = taken_off c.shrink.result now new c.shrink.ensures.taken c.shrink.ensures.alone.0 (omega (arith, number, more, some)) in
    shrinks_more c.args.base (g.T.View.context c.args.branch.now) now new off.0 c.back.invariant (omega (arith, number, more)) off.1
