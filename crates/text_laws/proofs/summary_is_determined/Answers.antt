use Rattle.text_laws.proofs.Texts.{summary_once}
use Rattle.text_laws.proofs.summary_is_determined.Goals as goal

pub returns : goal.returns
returns c = summary_once
