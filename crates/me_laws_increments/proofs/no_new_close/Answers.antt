use Rattle.me_laws_increments.proofs.Phases.{no_new_close}
use Rattle.me_laws_increments.proofs.no_new_close.Goals as goal

pub returns : goal.returns
returns c = no_new_close
