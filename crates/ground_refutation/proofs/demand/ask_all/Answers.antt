use Rattle.std.proofs.Common.{◌≤◌, length, min, arith}
use Rattle.ground_refutation.proofs.Loops.{all_asked}
use Rattle.ground_refutation.proofs.demand.ask_all.Goals as goal

pub returns : goal.returns
returns c =
    let past : min (length c.args.literals.now) (length c.args.positions.now) ≤ c.loop-i.i = omega (arith, c.min-i-end.ensures) in
    all_asked c.args.literals.now c.args.positions.now c.loop-i.i c.loop-i.waiting.items _ past c.loop-i.invariant
