use Rattle.answer_check.proofs.RefutationLines.{RightBelow}
use Rattle.answer_check.proofs.refutation.first_wrong.Given as goal

abbrev pub invariant-loop-k : goal.invariant-loop-k
invariant-loop-k l = RightBelow l.fn.problem l.fn.functions l.fn.lines l.k
