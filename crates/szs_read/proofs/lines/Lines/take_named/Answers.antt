use Rattle.szs_read.proofs.Passing.{named_passed, if_no_line, if_other_line}
use Rattle.szs_read.proofs.lines.Lines.take_named.Goals as goal

pub returns-clause-one : goal.returns-clause-one
returns-clause-one c = λ o. named_passed _ _ _ _ _ c.in_ok-name.ensures.some c.pass.ensures.parts c.pass.ensures.passed o

pub returns-in_err-line-clause-none : goal.returns-in_err-line-clause-none
returns-in_err-line-clause-none c = if_no_line _ c.args.self.now.rest.now c.args.head.now c.in_err-line.ensures.none

pub returns-in_err-name-clause-none : goal.returns-in_err-name-clause-none
returns-in_err-name-clause-none c = if_other_line _ c.args.self.now.rest.now c.in_ok-line.line.now c.args.head.now c.in_ok-line.ensures.line c.in_ok-line.ensures.front c.in_err-name.ensures.none
