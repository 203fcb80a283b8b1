use Rattle.std.proofs.Common.{None, refl}
use Rattle.tuple_search.specs.Enumeration.{no_limits}
use Rattle.next_rule.proofs.Answers.{not_so}
use Rattle.next_rule.proofs.Cursors.{advances, fewer, no_more}
use Rattle.answer_check.proofs.Productive.{none_more, none_at_end}
use Rattle.answer_check.proofs.model.has_productive.Goals as goal

pub returns-then-branch-2 : goal.returns-then-branch-2
returns-then-branch-2 c = (λ _. (c.tuple.result.now.items, c.in_ok-is_productive_tuple.ensures.0 c.if-branch-2.true), λ _. refl)

pub loop-cursor-smaller : goal.loop-cursor-smaller
loop-cursor-smaller c =
    let literals = c.args.clause.now.literals in
    let over = c.loop-cursor.invariant.over in
    fewer c.args.context.now literals None no_limits c.loop-cursor.cursor c.advance.new.self over
    (advances c.args.context.now literals None no_limits c.loop-cursor.cursor c.advance.new.self over (c.in_ok-advance.ensures.next c.if-branch.true))

pub loop-cursor-preserved : goal.loop-cursor-preserved
loop-cursor-preserved c =
    let context = c.args.context.now in
    let literals = c.args.clause.now.literals in
    let moves = advances context literals None no_limits c.loop-cursor.cursor c.advance.new.self c.loop-cursor.invariant.over (c.in_ok-advance.ensures.next c.if-branch.true) in
    none_more context literals c.loop-cursor.cursor c.advance.new.self c.tuple.result.now.items c.loop-cursor.invariant moves c.tuple.ensures (not_so _ _ c.in_ok-is_productive_tuple.ensures c.if-branch-2.false)

pub returns : goal.returns
returns c =
    let context = c.args.context.now in
    let literals = c.args.clause.now.literals in
    let last = no_more context literals None no_limits c.loop-cursor.cursor c.loop-cursor.invariant.over (c.in_ok-advance.ensures.end c.if-branch.false) in
    (λ h. absurd (cc h), λ has. absurd (none_at_end context literals c.loop-cursor.cursor c.loop-cursor.invariant last has))
