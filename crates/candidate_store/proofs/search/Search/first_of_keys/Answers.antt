use Rattle.candidate_store.proofs.MetKeys.{met_none, met_more, met_all, meets_itself, meets_on}
use Rattle.candidate_store.proofs.search.Search.first_of_keys.Goals as goal

pub loop-key-init : goal.loop-key-init
loop-key-init g c =
    let problem = c.args.self.now.problem.now in
    let bounds = c.args.self.now.bounds.now in
    let context = g.V.View.context c.args.self.now.view.now in
    record {
      right = c.requires.right;
      more = meets_itself problem bounds context c.args.best;
      met = met_none problem bounds context c.args.best;
    }

pub loop-key-preserved : goal.loop-key-preserved
loop-key-preserved g c =
    let problem = c.args.self.now.problem.now in
    let bounds = c.args.self.now.bounds.now in
    let context = g.V.View.context c.args.self.now.view.now in
    let i = c.loop-key.invariant in
    let h = c.in_ok-best.ensures in
    record {
      right = h.right;
      more = meets_on problem bounds context c.args.best c.loop-key.best c.in_ok-best.best i.more h.more;
      met = met_more problem bounds context c.args.keys.now c.loop-key.key-index c.key-item.result c.loop-key.best c.in_ok-best.best c.loop-key-test.true c.key-item.is h.more i.met h.met;
    }

pub returns-clause-met : goal.returns-clause-met
returns-clause-met g c =
    met_all c.args.self.now.problem.now c.args.self.now.bounds.now (g.V.View.context c.args.self.now.view.now) c.args.keys.now c.loop-key.key-index c.loop-key.best c.loop-key-test.false c.loop-key.invariant.met
