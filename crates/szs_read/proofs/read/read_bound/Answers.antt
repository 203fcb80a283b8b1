use Rattle.std.proofs.Common.{◌∙◌, ◌++◌, List, ℕ, refl, ap}
use Rattle.szs_print.specs.AnswerText.{bound_text}
use Rattle.szs_print.specs.StatusText.{reason_line}
use Rattle.szs_read.proofs.OneLines.{reason_one}
use Rattle.szs_read.proofs.Passing.{line_passed}
use Rattle.szs_read.proofs.Statuses.{whole_bound, if_no_reason, if_other_reason}
use Rattle.szs_read.proofs.read.read_bound.Goals as goal

pub returns-clause-whole : goal.returns-clause-whole
returns-clause-whole c = λ signature name.
    whole_bound signature name c.in_ok-bound.bound _ _
    (line_passed _ _ (reason_line (bound_text c.in_ok-bound.bound)) (reason_one c.in_ok-bound.bound)
    (c.pass.ensures.parts ∙ ap (λ (v : List ℕ). v ++ c.pass.new.self.rest.now) c.in_ok-bound.ensures.some) c.pass.ensures.passed)

pub returns-in_err-line-clause-stuck : goal.returns-in_err-line-clause-stuck
returns-in_err-line-clause-stuck c = if_no_reason _ c.args.lines.now c.args.lines.now refl c.in_err-line.ensures.none

pub returns-in_err-bound-clause-stuck : goal.returns-in_err-bound-clause-stuck
returns-in_err-bound-clause-stuck c = if_other_reason _ c.args.lines.now c.args.lines.now c.in_ok-line.line.now refl c.in_ok-line.ensures.line c.in_ok-line.ensures.front c.in_err-bound.ensures.none
