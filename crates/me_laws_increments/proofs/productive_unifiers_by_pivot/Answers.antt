use Rattle.me_laws_increments.proofs.Pivots.{productive_unifiers_by_pivot}
use Rattle.me_laws_increments.proofs.productive_unifiers_by_pivot.Goals as goal

pub returns : goal.returns
returns c = productive_unifiers_by_pivot
