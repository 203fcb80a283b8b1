use Rattle.me_laws_examples.proofs.CoveredEntries.{covered_entries}
use Rattle.me_laws_examples.proofs.covered_entries.Goals as goal

pub returns : goal.returns
returns c = covered_entries
