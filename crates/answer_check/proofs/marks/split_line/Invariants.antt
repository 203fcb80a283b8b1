use Rattle.answer_check.proofs.Marking.{NoFeed}
use Rattle.answer_check.proofs.marks.split_line.Given as goal

abbrev pub invariant-loop-k : goal.invariant-loop-k
invariant-loop-k l = NoFeed l.bytes l.k
