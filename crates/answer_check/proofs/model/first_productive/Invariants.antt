use Rattle.answer_check.proofs.ModelSearches.{NoneBefore}
use Rattle.answer_check.proofs.model.first_productive.Given as goal

abbrev pub invariant-loop-clause : goal.invariant-loop-clause
invariant-loop-clause l = NoneBefore l.fn.problem l.fn.context l.clause-index
