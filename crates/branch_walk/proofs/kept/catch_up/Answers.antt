use Rattle.std.proofs.Common.{◌+◌, length, arith}
use Rattle.std.proofs.lemmas.List.{length-take-le}
use Rattle.branch_walk.proofs.Alongside.{along_all, along_at, along_count, along_within}
use Rattle.branch_walk.proofs.kept.catch_up.Goals as goal

pub up-init : goal.up-init
up-init g c = λ bounds h. h

pub enter-requires-clause-stands : goal.enter-requires-clause-stands
enter-requires-clause-stands g c = (c.requires.along.0, c.requires.along.1, c.up.invariant c.requires.along.0 c.requires.along.2)

pub enter-requires-clause-more : goal.enter-requires-clause-more
enter-requires-clause-more g c =
    let problem = c.args.problem.now in
    let context = g.V.View.context c.args.view.now in
    let bounds = c.requires.along.0 in
    let now = c.up.invariant bounds c.requires.along.2 in
    let stood = c.len.ensures problem bounds _ now in
    let count = along_count problem bounds context c.up.store now in
    let number = c.len-in-up.ensures.number in
    omega (arith, stood, count, number, c.up-test.true)

pub up-preserved : goal.up-preserved
up-preserved g c = λ bounds h.
    let problem = c.args.problem.now in
    let context = g.V.View.context c.args.view.now in
    let now = c.up.invariant bounds h in
    let stood = c.len.ensures problem bounds _ now in
    let count = along_count problem bounds context c.up.store now in
    let number = c.len-in-up.ensures.number in
    along_at problem bounds context c.enter.new.self (length c.up.store.frames + 1) (omega (arith, stood, count, number, c.up-test.true)) (c.in_ok-enter.ensures.ok bounds now)

pub up-smaller : goal.up-smaller
up-smaller g c =
    let problem = c.args.problem.now in
    let context = g.V.View.context c.args.view.now in
    let bounds = c.requires.along.0 in
    let now = c.up.invariant bounds c.requires.along.2 in
    let stood = c.len.ensures problem bounds _ now in
    let count = along_count problem bounds context c.up.store now in
    let number = c.len-in-up.ensures.number in
    let stands = c.in_ok-enter.ensures.ok bounds now in
    let each = stands.kept.frames.each in
    let long = length-take-le (length c.up.store.frames + 1) context (omega (arith, stood, count, number, c.up-test.true)) in
    omega (arith, stood, count, number, c.up-test.true, each, long)

pub returns-in_err-enter-clause-along : goal.returns-in_err-enter-clause-along
returns-in_err-enter-clause-along g c = λ bounds h.
    let problem = c.args.problem.now in
    let context = g.V.View.context c.args.view.now in
    let now = c.up.invariant bounds h in
    along_at problem bounds context c.enter.new.self (length c.up.store.frames) (along_within problem bounds context c.up.store now) (c.in_err-enter.ensures.err bounds now)

pub returns-clause-all : goal.returns-clause-all
returns-clause-all g c = λ bounds h.
    let problem = c.args.problem.now in
    let context = g.V.View.context c.args.view.now in
    let now = c.up.invariant bounds h in
    let stood = c.len.ensures problem bounds _ now in
    let count = along_count problem bounds context c.up.store now in
    let number = c.len-in-up.ensures.number in
    along_all problem bounds context c.up.store (omega (arith, stood, count, number, c.up-test.false)) now
