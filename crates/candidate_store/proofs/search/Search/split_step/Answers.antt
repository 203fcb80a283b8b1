use Rattle.candidate_store.proofs.MetKeys.{met_still, every_met}
use Rattle.candidate_store.proofs.search.Search.split_step.Goals as goal

pub step_of-requires-clause-met : goal.step_of-requires-clause-met
step_of-requires-clause-met g c =
    let problem = c.args.self.now.problem.now in
    let bounds = c.args.self.now.bounds.now in
    let context = g.V.View.context c.args.self.now.view.now in
    let h = c.in_ok-best-2.ensures in
    every_met problem bounds context c.args.frames.now c.args.keys.now c.in_ok-best-2.best c.requires.all h.met
    (met_still problem bounds context c.args.keys.now c.in_ok-best.best c.in_ok-best-2.best h.more c.in_ok-best.ensures.met)
