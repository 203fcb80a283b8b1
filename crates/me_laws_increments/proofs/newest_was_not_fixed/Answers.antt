use Rattle.me_laws_increments.proofs.NewEntries.{newest_was_not_fixed}
use Rattle.me_laws_increments.proofs.newest_was_not_fixed.Goals as goal

pub returns : goal.returns
returns c = newest_was_not_fixed
