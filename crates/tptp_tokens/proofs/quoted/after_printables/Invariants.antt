use Rattle.std.proofs.Common.{length}
use Rattle.tptp_tokens.proofs.Quotes.{SoFar}
use Rattle.tptp_tokens.proofs.quoted.after_printables.Given as goal

abbrev pub invariant-bytes : goal.invariant-bytes
invariant-bytes l = SoFar l.quote l.bytes l.rest

abbrev pub decreases-bytes : goal.decreases-bytes
decreases-bytes l = length l.rest
