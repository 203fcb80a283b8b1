use Rattle.me_laws_increments.proofs.Phases.{least_new_close_is_least}
use Rattle.me_laws_increments.proofs.least_new_close_is_least.Goals as goal

pub returns : goal.returns
returns c = least_new_close_is_least
