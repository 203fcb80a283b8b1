use Rattle.me_laws_increments.proofs.Lookup.{fixed_is_refused}
use Rattle.me_laws_increments.proofs.fixed_is_refused.Goals as goal

pub returns : goal.returns
returns c = fixed_is_refused
