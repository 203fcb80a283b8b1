use Rattle.me_laws_increments.proofs.Phases.{no_close_unless_next}
use Rattle.me_laws_increments.proofs.no_close_unless_next.Goals as goal

pub returns : goal.returns
returns c = no_close_unless_next
