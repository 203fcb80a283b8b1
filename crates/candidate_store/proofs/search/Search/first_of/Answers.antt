use Rattle.candidate_store.proofs.MetKeys.{best_first, more_first, met_first, met_before, meets_itself}
use Rattle.candidate_store.proofs.search.Search.first_of.Goals as goal

pub returns-then-is_before-clause-more : goal.returns-then-is_before-clause-more
returns-then-is_before-clause-more g c =
    meets_itself c.args.self.now.problem.now c.args.self.now.bounds.now (g.V.View.context c.args.self.now.view.now) c.args.best

pub returns-then-is_before-clause-met : goal.returns-then-is_before-clause-met
returns-then-is_before-clause-met g c =
    let found = c.is_before.ensures c.if-is_before.true in
    met_before c.args.self.now.problem.now c.args.self.now.bounds.now (g.V.View.context c.args.self.now.view.now) c.args.key.now c.args.best found.0 found.1 found.2

pub returns-clause-right : goal.returns-clause-right
returns-clause-right g c =
    best_first c.args.self.now.problem.now c.args.self.now.bounds.now (g.V.View.context c.args.self.now.view.now) c.args.best c.in_ok-next.next c.first_found.result c.requires.right c.in_ok-next.ensures.right c.first_found.ensures

pub returns-clause-more : goal.returns-clause-more
returns-clause-more g c =
    more_first c.args.self.now.problem.now c.args.self.now.bounds.now (g.V.View.context c.args.self.now.view.now) c.args.best c.in_ok-next.next c.first_found.result c.first_found.ensures

pub returns-clause-met : goal.returns-clause-met
returns-clause-met g c =
    met_first c.args.self.now.problem.now c.args.self.now.bounds.now (g.V.View.context c.args.self.now.view.now) c.args.key.now c.args.best c.in_ok-next.next c.first_found.result c.in_ok-next.ensures.met c.first_found.ensures
