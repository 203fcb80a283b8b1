use Rattle.answer_check.proofs.ClauseLines.{NoMatchBelow}
use Rattle.answer_check.proofs.instance.has_clause.Given as goal

abbrev pub invariant-loop-clause : goal.invariant-loop-clause
invariant-loop-clause l = NoMatchBelow l.fn.clauses l.fn.line l.clause-index
