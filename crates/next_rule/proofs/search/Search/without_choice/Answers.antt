use Rattle.next_rule.proofs.Answers.{not_so, is_so}
use Rattle.next_rule.proofs.SplitLooks.{look_settled, look_unproductive, look_met, some_remains}
use Rattle.next_rule.proofs.search.Search.without_choice.Goals as goal

pub returns-then-is_settled : goal.returns-then-is_settled
returns-then-is_settled g c =
    let a = c.args in
    look_settled a.self.now.problem.now a.self.now.bounds.now (g.V.View.context a.self.now.view.now) a.index a.clause.now a.unifier.now c.requires.clause_at c.requires.unifying c.requires.rule a.state
    (is_so _ _ c.is_settled.ensures c.if-is_settled.true)

pub returns-then-not-branch : goal.returns-then-not-branch
returns-then-not-branch g c =
    let a = c.args in
    look_unproductive a.self.now.problem.now a.self.now.bounds.now (g.V.View.context a.self.now.view.now) a.index a.clause.now a.unifier.now c.requires.clause_at c.requires.unifying
    (λ f h. not_so _ _ (c.in_ok-is_productive.ensures f h) c.if-not-branch.true) a.state

pub returns : goal.returns
returns g c =
    let a = c.args in
    let unifying = c.requires.unifying in
    let problem = a.self.now.problem.now in
    let context = g.V.View.context a.self.now.view.now in
    look_met problem a.self.now.bounds.now context a.index a.clause.now a.unifier.now c.requires.clause_at unifying c.requires.rule
    (is_so _ _ (c.in_ok-is_productive.ensures unifying.family unifying.unifier.unifier) c.if-not-branch.false) a.state c.first_bound-met.result
    (not_so _ _ c.is_settled.ensures c.if-is_settled.false) (some_remains problem a.self.now.bounds.now context a.index a.clause.now a.unifier.now c.requires.clause_at unifying c.requires.open) c.first_bound-met.ensures
