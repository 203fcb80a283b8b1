use Rattle.me_laws_increments.proofs.NewEntries.{ground_hides_none}
use Rattle.me_laws_increments.proofs.ground_hides_none.Goals as goal

pub returns : goal.returns
returns c = ground_hides_none
