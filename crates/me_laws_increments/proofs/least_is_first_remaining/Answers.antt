use Rattle.me_laws_increments.proofs.FirstUnfit.{least_is_first_remaining}
use Rattle.me_laws_increments.proofs.least_is_first_remaining.Goals as goal

pub returns : goal.returns
returns c = least_is_first_remaining
