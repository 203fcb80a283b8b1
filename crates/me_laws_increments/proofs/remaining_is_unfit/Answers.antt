use Rattle.me_laws_increments.proofs.FirstUnfit.{remaining_is_unfit}
use Rattle.me_laws_increments.proofs.remaining_is_unfit.Goals as goal

pub returns : goal.returns
returns c = remaining_is_unfit
