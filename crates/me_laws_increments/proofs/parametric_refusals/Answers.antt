use Rattle.me_laws_increments.proofs.Lookup.{parametric_refusals}
use Rattle.me_laws_increments.proofs.parametric_refusals.Goals as goal

pub returns : goal.returns
returns c = parametric_refusals
