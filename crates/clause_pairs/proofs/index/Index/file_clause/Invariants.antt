use Rattle.clause_pairs.proofs.Indexing.{AreFirstFiled}
use Rattle.clause_pairs.proofs.index.Index.file_clause.Given as goal

abbrev pub invariant-loop-i : goal.invariant-loop-i
invariant-loop-i l = AreFirstFiled l.clause.literals l.c l.fn.self l.i l.self
