use Rattle.me_laws_increments.proofs.Tuples.{entries_same}
use Rattle.me_laws_increments.proofs.asserted_entries_stay.Goals as goal

pub returns : goal.returns
returns c = entries_same
