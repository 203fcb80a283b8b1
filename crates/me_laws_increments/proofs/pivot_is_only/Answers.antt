use Rattle.me_laws_increments.proofs.Pivots.{only}
use Rattle.me_laws_increments.proofs.pivot_is_only.Goals as goal

pub returns : goal.returns
returns c = only
