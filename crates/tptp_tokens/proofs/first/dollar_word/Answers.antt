use Rattle.tptp_tokens.proofs.Firsts.{found_is, word_front, dollar_front, one_dollar_first, two_dollars_first}
use Rattle.tptp_tokens.proofs.first.dollar_word.Goals as goal

pub up_to-requires : goal.up_to-requires
up_to-requires c = dollar_front _ _ _ _ _ c.requires.head c.in-Some.ensures.some c.after_word.ensures

pub up_to-requires-in-None : goal.up_to-requires-in-None
up_to-requires-in-None c = word_front _ _ _ _ c.requires.head c.after_word-in-None.ensures

pub returns-in-Some : goal.returns-in-Some
returns-in-Some c = found_is _ _ _ _ _ _ c.up_to.ensures.kind c.up_to.ensures.rest (two_dollars_first _ _ _ _ _ _ c.requires.head c.requires.lead c.in-Some.ensures.some c.after_word.ensures c.up_to.ensures.parts)

pub returns-in-None : goal.returns-in-None
returns-in-None c = found_is _ _ _ _ _ _ c.up_to-in-None.ensures.kind c.up_to-in-None.ensures.rest (one_dollar_first _ _ _ _ _ c.requires.head c.requires.lead c.in-None.ensures.none c.after_word-in-None.ensures c.up_to-in-None.ensures.parts)
