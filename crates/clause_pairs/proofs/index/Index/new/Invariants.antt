use Rattle.clause_pairs.proofs.Indexing.{IsIndexTo}
use Rattle.clause_pairs.proofs.index.Index.new.Given as goal

abbrev pub invariant-loop-c : goal.invariant-loop-c
invariant-loop-c l = IsIndexTo l.problem l.c l.index
