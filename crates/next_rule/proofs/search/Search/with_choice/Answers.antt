use Rattle.std.proofs.Common.{◌≡◌, ℕ, length, sym, subst, ap, ◌∙◌}
use Rattle.next_rule.specs.SplitSearches.{IsSmaller}
use Rattle.next_rule.proofs.Answers.{not_so, is_so}
use Rattle.next_rule.proofs.SplitLooks.{look_later, look_unproductive, look_taken}
use Rattle.next_rule.proofs.search.Search.with_choice.Goals as goal

pub returns-then-not-is_improved_by : goal.returns-then-not-is_improved_by
returns-then-not-is_improved_by g c =
    let a = c.args in
    let u = a.unifier.now in
    let long : c.len-size.result ≡ length u.remainder = c.len-size.ensures ∙ ap length c.remainder.ensures.items in
    let P : ℕ → Type 0 = λ n. IsSmaller n a.choice.weight a.state.best in
    look_later a.self.now.problem.now a.self.now.bounds.now (g.V.View.context a.self.now.view.now) a.index a.clause.now u c.requires.clause_at c.requires.unifying a.choice c.requires.rule a.state
    (λ h. not_so _ _ c.is_improved_by.ensures c.if-not-is_improved_by.true (subst P (sym long) h))

pub returns-then-not-branch : goal.returns-then-not-branch
returns-then-not-branch g c =
    let a = c.args in
    look_unproductive a.self.now.problem.now a.self.now.bounds.now (g.V.View.context a.self.now.view.now) a.index a.clause.now a.unifier.now c.requires.clause_at c.requires.unifying
    (λ f h. not_so _ _ (c.in_ok-is_productive.ensures f h) c.if-not-branch.true) a.state

pub returns : goal.returns
returns g c =
    let a = c.args in
    let u = a.unifier.now in
    let unifying = c.requires.unifying in
    let long : c.len-size.result ≡ length u.remainder = c.len-size.ensures ∙ ap length c.remainder.ensures.items in
    look_taken a.self.now.problem.now a.self.now.bounds.now (g.V.View.context a.self.now.view.now) a.index a.clause.now u c.requires.clause_at unifying a.choice c.requires.rule
    (is_so _ _ (c.in_ok-is_productive.ensures unifying.family unifying.unifier.unifier) c.if-not-branch.false) a.state c.len-size.result c.in_ok-literal.literal long c.in_ok-literal.ensures
    (is_so _ _ c.is_improved_by.ensures c.if-not-is_improved_by.false)
