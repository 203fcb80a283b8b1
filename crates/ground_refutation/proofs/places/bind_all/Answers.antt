use Rattle.std.proofs.Common.{◌<◌, ◌≤◌, length, min, arith}
use Rattle.ground_refutation.proofs.Loops.{still_solvable, all_bound}
use Rattle.ground_refutation.proofs.places.bind_all.Goals as goal

pub bind-requires-clause-solvable : goal.bind-requires-clause-solvable
bind-requires-clause-solvable g c =
    let below : c.loop-i.i < length c.args.literals.now = omega (arith, c.min-i-end.ensures) in
    let within : c.loop-i.i < length c.args.positions.now = omega (arith, c.min-i-end.ensures) in
    still_solvable (g.V.View.context c.args.view.now) c.args.literals.now c.args.positions.now c.loop-i.i c.index-literals-i.result below within c.index-literals-i.is c.loop-i.bindings _ c.loop-i.invariant c.requires.solvable

pub returns : goal.returns
returns g c =
    let past : min (length c.args.literals.now) (length c.args.positions.now) ≤ c.loop-i.i = omega (arith, c.min-i-end.ensures) in
    all_bound (g.V.View.context c.args.view.now) c.args.literals.now c.args.positions.now c.loop-i.i c.loop-i.bindings _ past c.loop-i.invariant
