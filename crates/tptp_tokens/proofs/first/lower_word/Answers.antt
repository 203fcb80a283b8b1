use Rattle.tptp_tokens.proofs.Firsts.{found_is, word_front, lower_first}
use Rattle.tptp_tokens.proofs.first.lower_word.Goals as goal

pub up_to-requires : goal.up_to-requires
up_to-requires c = word_front _ _ _ _ c.requires.head c.after_word.ensures

pub returns : goal.returns
returns c = found_is _ _ _ _ _ _ c.up_to.ensures.kind c.up_to.ensures.rest (lower_first _ _ _ _ _ c.requires.head c.requires.lead c.after_word.ensures c.up_to.ensures.parts)
