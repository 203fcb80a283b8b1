use Rattle.std.proofs.Common.{length}
use Rattle.tptp_tokens.proofs.Gaps.{GapSoFar}
use Rattle.tptp_tokens.proofs.gap.after_gap.Given as goal

abbrev pub invariant-pieces : goal.invariant-pieces
invariant-pieces l = GapSoFar l.bytes l.rest

abbrev pub decreases-pieces : goal.decreases-pieces
decreases-pieces l = length l.rest
