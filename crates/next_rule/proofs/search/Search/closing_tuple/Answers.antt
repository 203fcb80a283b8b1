use Rattle.std.proofs.Common.{Some, None, ap, ◌∙◌}
use Rattle.me_terms.specs.Values.{ClauseValue}
use Rattle.tuple_search.specs.declared.limits.Limits.{Limits}
use Rattle.tuple_search.specs.Enumeration.{remainder_limit}
use Rattle.next_rule.proofs.Cursors.{cursor_at, none_at_all, next_copied}
use Rattle.next_rule.proofs.search.Search.closing_tuple.Goals as goal

pub returns-then-not-branch-clause-none : goal.returns-then-not-branch-clause-none
returns-then-not-branch-clause-none g c =
    let context = g.V.View.context c.args.self.now.view.now in
    let written = c.clause.inside.literals.items in
    let begun = c.new-cursor.ensures ∙ ap (λ (z : Limits). cursor_at context written None z None) c.of_remainder-limits.ensures in
    none_at_all context c.args.clause.now.literals None (remainder_limit (Some 0)) c.new-cursor.result written begun
    (ap (λ (z : ClauseValue). z.literals) c.clause.view_is) (c.in_ok-advance.ensures.end c.if-not-branch.true)

pub returns-clause-some : goal.returns-clause-some
returns-clause-some g c =
    let context = g.V.View.context c.args.self.now.view.now in
    let written = c.clause.inside.literals.items in
    let begun = c.new-cursor.ensures ∙ ap (λ (z : Limits). cursor_at context written None z None) c.of_remainder-limits.ensures in
    next_copied context c.args.clause.now.literals None (remainder_limit (Some 0)) c.new-cursor.result c.advance.new.self written c.tuple.result.now.items c.in_ok-tuple.tuple.items begun
    (ap (λ (z : ClauseValue). z.literals) c.clause.view_is) (c.in_ok-advance.ensures.next c.if-not-branch.false) c.tuple.ensures c.in_ok-tuple.ensures
