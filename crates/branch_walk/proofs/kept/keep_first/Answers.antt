use Rattle.std.proofs.Common.{arith}
use Rattle.branch_walk.proofs.Alongside.{along_count, along_left, along_within}
use Rattle.branch_walk.proofs.kept.keep_first.Goals as goal

pub down-init : goal.down-init
down-init c = λ problem bounds context h. h

pub leave-requires : goal.leave-requires
leave-requires c =
    let k = c.requires.along in
    let now = c.down.invariant k.0 k.1 k.2 k.3 in
    let count = along_count k.0 k.1 k.2 c.down.store now in
    let within = along_within k.0 k.1 k.2 c.down.store now in
    record { stands = (k.0, k.1, _, now, omega (arith, count, within, k.4)) }

pub down-preserved : goal.down-preserved
down-preserved c = λ problem bounds context h.
    let now = c.down.invariant problem bounds context h in
    let stood = c.len.ensures problem bounds _ now in
    let count = along_count problem bounds context c.down.store now in
    let some = c.requires.some in
    (along_left problem bounds context c.down.store c.leave.new.self (omega (arith, stood, count, some, c.down-test.true)) now (λ p b k e is lt. (c.leave.ensures.left p b k e is lt).0)).0

pub down-smaller : goal.down-smaller
down-smaller c =
    let k = c.requires.along in
    let now = c.down.invariant k.0 k.1 k.2 k.3 in
    let stood = c.len.ensures k.0 k.1 _ now in
    let count = along_count k.0 k.1 k.2 c.down.store now in
    let some = c.requires.some in
    let less = (along_left k.0 k.1 k.2 c.down.store c.leave.new.self (omega (arith, stood, count, some, c.down-test.true)) now (λ p b k e is lt. (c.leave.ensures.left p b k e is lt).0)).1 in
    omega (arith, less)

pub returns-clause-few : goal.returns-clause-few
returns-clause-few c =
    let k = c.requires.along in
    let now = c.down.invariant k.0 k.1 k.2 k.3 in
    let stood = c.len.ensures k.0 k.1 _ now in
    let count = along_count k.0 k.1 k.2 c.down.store now in
    omega (arith, stood, count, c.down-test.false)
