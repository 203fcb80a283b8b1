use Rattle.tptp_tokens.proofs.Firsts.{found_is, not_equal_front, not_equal_first, alone_exclamation, no_comment_at}
use Rattle.tptp_tokens.proofs.first.exclamation.Goals as goal

pub up_to-requires : goal.up_to-requires
up_to-requires c = not_equal_front _ _ _ _ c.requires.head c.in-Some.ensures.some

pub returns-in-Some : goal.returns-in-Some
returns-in-Some c = found_is _ _ _ _ _ _ c.up_to.ensures.kind c.up_to.ensures.rest (not_equal_first _ _ _ _ _ c.requires.head c.requires.lead c.in-Some.ensures.some c.up_to.ensures.parts)

pub sign-requires-clause-signs : goal.sign-requires-clause-signs
sign-requires-clause-signs c = alone_exclamation _ _ _ c.requires.head c.requires.lead c.in-None.ensures.none

pub sign-requires-clause-no_comment : goal.sign-requires-clause-no_comment
sign-requires-clause-no_comment c = no_comment_at _ _ _ _ c.requires.head c.requires.lead (λ e. cc)
