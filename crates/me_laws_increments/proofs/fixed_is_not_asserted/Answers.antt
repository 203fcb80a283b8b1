use Rattle.me_laws_increments.proofs.Prefixes.{fixed_is_not_asserted}
use Rattle.me_laws_increments.proofs.fixed_is_not_asserted.Goals as goal

pub returns : goal.returns
returns c = fixed_is_not_asserted
