use Rattle.std.proofs.Common.{◌≡◌, ◌++◌}
use Rattle.std.specs.Vec.Iter.{into_iter_items}
use Rattle.ground_solver.specs.Assignments.{clauses_of}
use Rattle.answer_check.specs.Judgements.{literals_of}
use Rattle.answer_check.proofs.refutation.list_of.Given as goal

-- The clauses that were listed and the lines that are left give the whole.
abbrev pub invariant-loop-line : goal.invariant-loop-line
invariant-loop-line l = clauses_of l.list.items ++ literals_of (into_iter_items l.line-iterator) ≡ literals_of l.fn.lines.items
