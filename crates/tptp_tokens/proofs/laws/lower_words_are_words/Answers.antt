use Rattle.tptp_tokens.proofs.Texts.{lower_word_is_word}
use Rattle.tptp_tokens.proofs.laws.lower_words_are_words.Goals as goal

pub returns : goal.returns
returns c = lower_word_is_word
