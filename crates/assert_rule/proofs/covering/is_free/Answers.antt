use Rattle.assert_rule.proofs.Fixed.{free_exactly}
use Rattle.assert_rule.proofs.covering.is_free.Goals as goal

pub returns : goal.returns
returns g c = free_exactly (g.V.View.context c.args.view.now) c.args.lit.now c.len-entries.ensures.is_context c.requires.ground c.is_ground_fixed.result c.is_ground_fixed.ensures
