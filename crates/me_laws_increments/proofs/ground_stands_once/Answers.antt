use Rattle.me_laws_increments.proofs.NewEntries.{ground_stands_once}
use Rattle.me_laws_increments.proofs.ground_stands_once.Goals as goal

pub returns : goal.returns
returns c = ground_stands_once
