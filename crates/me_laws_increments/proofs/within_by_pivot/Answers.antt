use Rattle.me_laws_increments.proofs.Pivots.{within_by_pivot}
use Rattle.me_laws_increments.proofs.within_by_pivot.Goals as goal

pub returns : goal.returns
returns c = within_by_pivot
