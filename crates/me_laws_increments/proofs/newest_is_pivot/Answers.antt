use Rattle.me_laws_increments.proofs.Pivots.{newest_is_pivot}
use Rattle.me_laws_increments.proofs.newest_is_pivot.Goals as goal

pub returns : goal.returns
returns c = newest_is_pivot
