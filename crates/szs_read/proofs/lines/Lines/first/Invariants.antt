use Rattle.std.proofs.Common.{take}
use Rattle.tptp_tokens.specs.Gaps.{IsOneLine}
use Rattle.szs_read.proofs.lines.Lines.first.Given as goal

abbrev pub invariant-bytes : goal.invariant-bytes
invariant-bytes l = IsOneLine (take l.k l.rest)
