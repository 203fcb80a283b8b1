use Rattle.me_laws_increments.proofs.Refusals.{still_refused}
use Rattle.me_laws_increments.proofs.refused_stays_refused.Goals as goal

pub returns : goal.returns
returns c = still_refused
