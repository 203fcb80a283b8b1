use Rattle.me_laws_increments.proofs.Replacement.{fixed_later}
use Rattle.me_laws_increments.proofs.fixed_stays_fixed.Goals as goal

pub returns : goal.returns
returns c = fixed_later
