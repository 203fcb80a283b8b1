use Rattle.std.proofs.Common.{[], refl, arith}
use Rattle.tptp_tokens.proofs.Gaps.{gap_goes_on}
use Rattle.tptp_tokens.proofs.gap.after_gap.Goals as goal

pub pieces-preserved : goal.pieces-preserved
pieces-preserved c = gap_goes_on _ _ _ c.pieces.invariant c.in-Some.ensures.some (omega (arith, c.in-Some.ensures.shorter))

pub returns-clause-gap : goal.returns-clause-gap
returns-clause-gap c = c.pieces.invariant.joins [] c.pieces.rest.now (refl, c.in_default.ensures.none)
