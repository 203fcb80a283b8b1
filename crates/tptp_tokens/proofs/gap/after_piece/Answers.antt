use Rattle.std.proofs.Common.{sym}
use Rattle.tptp_tokens.proofs.Gaps.{blank_piece, block_piece}
use Rattle.tptp_tokens.proofs.gap.after_piece.Goals as goal

pub returns-in-Some-after_pair-clause-some : goal.returns-in-Some-after_pair-clause-some
returns-in-Some-after_pair-clause-some c = block_piece _ _ _ c.in-Some-after_pair.ensures.some c.after_block.ensures.some

pub returns-then-is_blank-clause-some : goal.returns-then-is_blank-clause-some
returns-then-is_blank-clause-some c = blank_piece _ _ _ c.in-Some-split.ensures.some (sym c.if-is_blank.ensures)
