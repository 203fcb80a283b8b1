use Rattle.std.proofs.Common.{sym}
use Rattle.tptp_tokens.proofs.Firsts.{alone_other}
use Rattle.tptp_tokens.proofs.first.token_of.Goals as goal

pub sign-requires-clause-signs : goal.sign-requires-clause-signs
sign-requires-clause-signs c = alone_other _ _ _ c.requires.head (sym c.in-Other.ensures)
