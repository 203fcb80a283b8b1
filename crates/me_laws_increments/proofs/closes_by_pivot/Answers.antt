use Rattle.me_laws_increments.proofs.Pivots.{closes_by_pivot}
use Rattle.me_laws_increments.proofs.closes_by_pivot.Goals as goal

pub returns : goal.returns
returns c = closes_by_pivot
