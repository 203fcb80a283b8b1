use Rattle.std.proofs.Common.{arith}
use Rattle.tptp_tokens.proofs.Quotes.{none_yet, one_more}
use Rattle.tptp_tokens.proofs.quoted.after_printables.Goals as goal

pub bytes-init : goal.bytes-init
bytes-init c = none_yet _ _

pub bytes-preserved : goal.bytes-preserved
bytes-preserved c = one_more _ _ _ _ c.bytes.invariant c.in-Some.ensures.some (omega (arith, c.in-Some.ensures.shorter))
