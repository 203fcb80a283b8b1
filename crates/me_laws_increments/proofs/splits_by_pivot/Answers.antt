use Rattle.me_laws_increments.proofs.Pivots.{splits_by_pivot}
use Rattle.me_laws_increments.proofs.splits_by_pivot.Goals as goal

pub returns : goal.returns
returns c = splits_by_pivot
