use Rattle.me_laws_increments.proofs.Pivots.{exists}
use Rattle.me_laws_increments.proofs.pivot_exists.Goals as goal

pub returns : goal.returns
returns c = exists
