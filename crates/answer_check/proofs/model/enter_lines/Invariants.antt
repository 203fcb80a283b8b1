use Rattle.std.specs.Vec.Iter.{into_iter_items}
use Rattle.answer_check.proofs.LinesAdded.{EnteredSoFar}
use Rattle.answer_check.proofs.model.enter_lines.Given as goal

abbrev pub invariant-loop-line : goal.invariant-loop-line
invariant-loop-line l = EnteredSoFar l.fn.start l.fn.lines.items l.context (into_iter_items l.line-iterator)
