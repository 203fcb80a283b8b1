use Rattle.tptp_tokens.proofs.Gaps.{line_goes_on, line_is_ended, line_is_last}
use Rattle.tptp_tokens.proofs.gap.after_line.Goals as goal

pub bytes-preserved : goal.bytes-preserved
bytes-preserved c = line_goes_on _ _ _ _ c.bytes.invariant c.in-Some.ensures.some c.if-byte-eq10.false

pub returns-then-byte-eq10-clause-ends : goal.returns-then-byte-eq10-clause-ends
returns-then-byte-eq10-clause-ends c = line_is_ended _ _ _ _ c.bytes.invariant c.in-Some.ensures.some c.if-byte-eq10.true

pub returns-clause-ends : goal.returns-clause-ends
returns-clause-ends c = line_is_last _ _ c.bytes.invariant c.in_default.ensures.none
