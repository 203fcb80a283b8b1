use Rattle.me_laws_increments.proofs.Phases.{no_close_before}
use Rattle.me_laws_increments.proofs.no_close_before.Goals as goal

pub returns : goal.returns
returns c = no_close_before
