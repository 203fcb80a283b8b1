use Rattle.std.proofs.Common.{false, get_or, refl}
use Rattle.std.proofs.lemmas.Option.{slice_get-get_or}
use Rattle.me_unify.specs.Measured.{IsMeasure}
use Rattle.me_unify.proofs.Measures.{measured_more}
use Rattle.me_unify.proofs.measure.measure_all.Goals as goal

pub loop-x-preserved : goal.loop-x-preserved
loop-x-preserved c h each =
    let measured : IsMeasure (h (get_or c.args.xs.now c.loop-x.x-index 0)) (get_or c.args.measures.now (get_or c.args.xs.now c.loop-x.x-index 0) (record { weight = 0; depth = 0; ground = false })) =
    each c.loop-x.x-index c.loop-x-test.true (get_or c.args.measures.now (get_or c.args.xs.now c.loop-x.x-index 0) (record { weight = 0; depth = 0; ground = false })) (slice_get-get_or c.args.measures.now (get_or c.args.xs.now c.loop-x.x-index 0) (record { weight = 0; depth = 0; ground = false }) (c.requires.within c.loop-x.x-index c.loop-x-test.true)) in
    measured_more h c.args.xs.now c.loop-x.x-index (get_or c.args.xs.now c.loop-x.x-index 0) c.loop-x.all (get_or c.args.measures.now (get_or c.args.xs.now c.loop-x.x-index 0) (record { weight = 0; depth = 0; ground = false })) c.both-all.result
    c.loop-x-test.true refl (c.loop-x.invariant h each) measured c.both-all.ensures.weight c.both-all.ensures.depth c.both-all.ensures.ground
