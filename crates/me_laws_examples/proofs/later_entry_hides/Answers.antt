use Rattle.me_laws_examples.proofs.HiddenEntry.{later_entry_hides}
use Rattle.me_laws_examples.proofs.later_entry_hides.Goals as goal

pub returns : goal.returns
returns c = later_entry_hides
