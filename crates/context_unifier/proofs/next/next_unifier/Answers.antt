use Rattle.std.proofs.Common.{ap}
use Rattle.me_terms.specs.Values.{ClauseValue}
use Rattle.context_unifier.proofs.Followed.{none_followed, unifier_followed, never_none}
use Rattle.context_unifier.proofs.next.next_unifier.Goals as goal

pub returns-then-not-branch-clause-none : goal.returns-then-not-branch-clause-none
returns-then-not-branch-clause-none g c h =
    none_followed c.in_ok-cursor.cursor c.advance.new.self (g.V.View.context c.args.view.now) c.clause.inside.literals.items c.args.clause.now.literals _ c.in_ok-cursor.ensures (ap (λ (z : ClauseValue). z.literals) c.clause.view_is)
    (c.in_ok-advance.ensures.end c.if-not-branch.true)

pub returns-clause-none : goal.returns-clause-none
returns-clause-none g c =
    let known = unifier_followed c.in_ok-cursor.cursor c.advance.new.self (g.V.View.context c.args.view.now) c.clause.inside.literals.items c.args.clause.now.literals _ c.in_ok-cursor.ensures (ap (λ (z : ClauseValue). z.literals) c.clause.view_is) c.tuple.result.now.items (c.in_ok-advance.ensures.next c.if-not-branch.false) c.tuple.ensures in
    never_none c.joint_unifier.result _ _ known c.joint_unifier.ensures.exact
