use Rattle.me_laws_increments.proofs.Tuples.{opposite_while_visible}
use Rattle.me_laws_increments.proofs.opposite_while_visible.Goals as goal

pub returns : goal.returns
returns c = opposite_while_visible
