use Rattle.me_laws_increments.proofs.FirstUnfit.{remains}
use Rattle.me_laws_increments.proofs.places_remain.Goals as goal

pub returns : goal.returns
returns c = remains
