use Rattle.std.proofs.Common.{arith}
use Rattle.candidate_store.proofs.United.{within_more, within_first, within_all}
use Rattle.candidate_store.proofs.search.Search.unifiers_from.Goals as goal

pub loop-pivot-init : goal.loop-pivot-init
loop-pivot-init g c =
    within_first c.args.self.now.problem.now c.args.self.now.bounds.now (g.V.View.context c.args.self.now.view.now) c.args.from c.literal_from-first.result c.in_ok-keys.keys.items c.literal_from-first.ensures.first c.in_ok-keys.ensures

pub loop-pivot-preserved : goal.loop-pivot-preserved
loop-pivot-preserved g c =
    within_more c.args.self.now.problem.now c.args.self.now.bounds.now (g.V.View.context c.args.self.now.view.now) c.args.from c.loop-pivot.pivot c.loop-pivot.keys.items c.in_ok-keys-2.keys.items c.in_ok-keys-2.ensures.kept c.loop-pivot.invariant c.in_ok-keys-2.ensures.added

pub returns : goal.returns
returns g c =
    within_all c.args.self.now.problem.now c.args.self.now.bounds.now (g.V.View.context c.args.self.now.view.now) c.args.from c.loop-pivot.pivot c.loop-pivot.keys.items (omega arith) c.loop-pivot.invariant
