use Rattle.me_laws_increments.proofs.Tuples.{visible_within}
use Rattle.me_laws_increments.proofs.opposite_is_within.Goals as goal

pub returns : goal.returns
returns c = visible_within
