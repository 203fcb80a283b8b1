use Rattle.next_rule.proofs.AssertSteps.{assert_answered, assert_unanswered}
use Rattle.next_rule.proofs.search.Search.assert_at.Goals as goal

pub returns-in-Some : goal.returns-in-Some
returns-in-Some g c =
    let a = c.args in
    assert_answered a.self.now.problem.now a.self.now.bounds.now (g.V.View.context a.self.now.view.now) a.index a.place a.clause.now a.tuple.now.items _ a.best c.in_ok-found.found c.in-Some.better c.requires.clause_at c.as_ref.ensures.value c.in-Some.is c.in_ok-found.ensures.some c.in_ok-found.ensures.before

pub returns-in-None : goal.returns-in-None
returns-in-None g c =
    let a = c.args in
    assert_unanswered a.self.now.problem.now a.self.now.bounds.now (g.V.View.context a.self.now.view.now) a.index a.place a.clause.now a.tuple.now.items _ a.best c.in_ok-found.found c.requires.clause_at c.as_ref.ensures.value c.in-None.is c.in_ok-found.ensures.none
