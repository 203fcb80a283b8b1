use Rattle.text_laws.proofs.Options.{settings_once}
use Rattle.text_laws.proofs.settings_are_determined.Goals as goal

pub returns : goal.returns
returns c = settings_once
