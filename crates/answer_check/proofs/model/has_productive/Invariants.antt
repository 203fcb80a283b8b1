use Rattle.next_rule.proofs.Cursors.{cursor_left}
use Rattle.answer_check.proofs.Productive.{NoneSoFar}
use Rattle.answer_check.proofs.model.has_productive.Given as goal

abbrev pub invariant-loop-cursor : goal.invariant-loop-cursor
invariant-loop-cursor l = NoneSoFar l.context l.clause.literals l.cursor

abbrev pub decreases-loop-cursor : goal.decreases-loop-cursor
decreases-loop-cursor l = cursor_left l.cursor
