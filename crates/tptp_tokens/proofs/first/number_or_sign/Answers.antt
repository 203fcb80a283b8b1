use Rattle.tptp_tokens.proofs.Firsts.{alone_numeric, no_comment_at}
use Rattle.tptp_tokens.proofs.first.number_or_sign.Goals as goal

pub sign-requires-clause-signs : goal.sign-requires-clause-signs
sign-requires-clause-signs c = alone_numeric _ _ _ c.requires.head c.requires.lead c.in-None.ensures.none

pub sign-requires-clause-no_comment : goal.sign-requires-clause-no_comment
sign-requires-clause-no_comment c = no_comment_at _ _ _ _ c.requires.head c.requires.lead (λ e. cc)
