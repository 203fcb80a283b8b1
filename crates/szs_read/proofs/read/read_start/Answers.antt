use Rattle.std.proofs.Common.{◌∙◌, sym}
use Rattle.std.specs.Cmp.Lexicographic.{other_text}
use Rattle.szs_read.proofs.Statuses.{if_no_start, no_start}
use Rattle.szs_read.proofs.read.read_start.Goals as goal

pub returns-in_err-line-clause-none : goal.returns-in_err-line-clause-none
returns-in_err-line-clause-none c = if_no_start _ c.args.lines.now.rest.now c.in_err-line.ensures.none

pub returns-else-eq-2-clause-none : goal.returns-else-eq-2-clause-none
returns-else-eq-2-clause-none c =
    no_start c.args.lines.now.rest.now c.in_ok-line.line.now c.in_ok-line.ensures.line c.in_ok-line.ensures.front
    (λ e. other_text _ _ c.if-eq.ensures (e ∙ sym c.as_slice.ensures)) (λ e. other_text _ _ c.if-eq-2.ensures (e ∙ sym c.as_slice-else-eq.ensures))
