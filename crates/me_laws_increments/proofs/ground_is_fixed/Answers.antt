use Rattle.me_laws_increments.proofs.Lookup.{ground_is_fixed}
use Rattle.me_laws_increments.proofs.ground_is_fixed.Goals as goal

pub returns : goal.returns
returns c = ground_is_fixed
