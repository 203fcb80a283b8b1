use Rattle.text_laws.proofs.Texts.{answer_text_once}
use Rattle.text_laws.proofs.answer_text_is_determined.Goals as goal

pub returns : goal.returns
returns c = answer_text_once
