use Rattle.me_laws_examples.proofs.AddedEntries.{added_entries}
use Rattle.me_laws_examples.proofs.added_entries.Goals as goal

pub returns : goal.returns
returns c = added_entries
