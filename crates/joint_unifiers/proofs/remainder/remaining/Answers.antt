use Rattle.std.proofs.Common.{arith}
use Rattle.joint_unifiers.proofs.Remaining.{places_step, places_all}
use Rattle.joint_unifiers.proofs.remainder.remaining.Goals as goal

pub loop-place-preserved : goal.loop-place-preserved
loop-place-preserved g c u general =
    places_step _ c.loop-place.places.items _ c.loop-place.place (g.V.View.context c.args.view.now) _ u c.position_at-position.result c.remains_at.result c.position_at-position.ensures (c.remains_at.ensures u general) c.in_ok-push_if.ensures (c.loop-place.invariant u general)

pub returns : goal.returns
returns g c u general =
    places_all _ _ c.loop-place.place (g.V.View.context c.args.view.now) _ u (omega (arith, c.requires.each_place)) (c.loop-place.invariant u general)
