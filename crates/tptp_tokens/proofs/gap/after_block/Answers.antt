use Rattle.tptp_tokens.proofs.Gaps.{block_goes_on}
use Rattle.tptp_tokens.proofs.gap.after_block.Goals as goal

pub bytes-preserved : goal.bytes-preserved
bytes-preserved c = block_goes_on _ _ _ _ c.bytes.invariant c.in-Some.ensures.some c.in_default-after_pair.ensures.none
