use Rattle.me_laws_increments.proofs.FirstUnfit.{bounded}
use Rattle.me_laws_increments.proofs.first_remaining_is_bounded.Goals as goal

pub returns : goal.returns
returns c = bounded
