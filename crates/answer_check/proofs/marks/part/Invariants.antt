use Rattle.std.proofs.Common.{◌-◌, length}
use Rattle.answer_check.proofs.Marking.{PassedTo}
use Rattle.answer_check.proofs.marks.part.Given as goal

abbrev pub invariant-loop-at : goal.invariant-loop-at
invariant-loop-at l = PassedTo l.input l.at

abbrev pub decreases-loop-at : goal.decreases-loop-at
decreases-loop-at l = length l.input - l.at
