use Rattle.me_laws_increments.proofs.Lookup.{ground_refusals}
use Rattle.me_laws_increments.proofs.ground_refusals.Goals as goal

pub returns : goal.returns
returns c = ground_refusals
