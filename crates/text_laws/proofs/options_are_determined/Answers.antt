use Rattle.text_laws.proofs.Options.{options_once}
use Rattle.text_laws.proofs.options_are_determined.Goals as goal

pub returns : goal.returns
returns c = options_once
