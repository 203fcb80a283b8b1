use Rattle.me_laws_increments.proofs.Lookup.{universal_refusals}
use Rattle.me_laws_increments.proofs.universal_refusals.Goals as goal

pub returns : goal.returns
returns c = universal_refusals
