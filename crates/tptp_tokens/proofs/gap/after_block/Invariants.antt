use Rattle.std.proofs.Common.{length}
use Rattle.tptp_tokens.proofs.Gaps.{BlockSoFar}
use Rattle.tptp_tokens.proofs.gap.after_block.Given as goal

abbrev pub invariant-bytes : goal.invariant-bytes
invariant-bytes l = BlockSoFar l.bytes l.rest

abbrev pub decreases-bytes : goal.decreases-bytes
decreases-bytes l = length l.rest
