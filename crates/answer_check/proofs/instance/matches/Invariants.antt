use Rattle.answer_check.proofs.Matching.{MatchedSoFar}
use Rattle.answer_check.proofs.instance.matches.Given as goal

abbrev pub invariant-loop-k : goal.invariant-loop-k
invariant-loop-k l = MatchedSoFar l.literals l.special l.k l.bindings
