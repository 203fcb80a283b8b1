use Rattle.me_laws_increments.proofs.Pivots.{asserts_by_pivot}
use Rattle.me_laws_increments.proofs.asserts_by_pivot.Goals as goal

pub returns : goal.returns
returns c = asserts_by_pivot
