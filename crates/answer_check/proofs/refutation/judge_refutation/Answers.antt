use Rattle.std.proofs.Common.{◌≡◌, sym, subst}
use Rattle.ground_solver.specs.Assignments.{clauses_of}
use Rattle.ground_solver.specs.Decisions.{IsClosed, IsDecided}
use Rattle.ground_solver.specs.declared.decision.Decision.{Decision}
use Rattle.answer_check.proofs.LinesAdded.{none_by}
use Rattle.answer_check.proofs.RefutationLines.{right_lines, satisfied_by, shown_by}
use Rattle.answer_check.proofs.refutation.judge_refutation.Goals as goal

pub returns-in-Model : goal.returns-in-Model
returns-in-Model c = λ own grows.
    let lines = c.args.lines.items in
    let read : c.as_slice.result.now ≡ lines = cc c.as_slice.ensures in
    let right = right_lines own lines c.as_slice.result.now c.in_ok-line.field-0 read (none_by c.in_ok-line.field-0 c.in_default.not-Some) (c.in_ok-line.ensures own grows) in
    let clauses = clauses_of c.in_ok-list.list.items in
    let P : Decision → Type 0 = λ z. IsDecided clauses z in
    satisfied_by own lines clauses c.in-Model.trues.items c.in_ok-list.ensures right (subst P c.in-Model.is c.in_ok-trues.ensures.decided)

pub returns : goal.returns
returns c = λ own grows.
    let lines = c.args.lines.items in
    let read : c.as_slice.result.now ≡ lines = cc c.as_slice.ensures in
    let right = right_lines own lines c.as_slice.result.now c.in_ok-line.field-0 read (none_by c.in_ok-line.field-0 c.in_default.not-Some) (c.in_ok-line.ensures own grows) in
    let P : Decision → Type 0 = λ z. IsClosed z in
    shown_by own lines (clauses_of c.in_ok-list.list.items) c.in_ok-list.ensures right (c.in_ok-trues.ensures.exact.0 (subst P (sym c.in-Closed.is) tt))
