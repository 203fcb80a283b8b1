use Rattle.me_laws_increments.proofs.Tuples.{unifiers_stay}
use Rattle.me_laws_increments.proofs.unifiers_stay.Goals as goal

pub returns : goal.returns
returns c = unifiers_stay
