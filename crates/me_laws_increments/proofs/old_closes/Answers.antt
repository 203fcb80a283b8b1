use Rattle.me_laws_increments.proofs.Candidates.{old_closes}
use Rattle.me_laws_increments.proofs.old_closes.Goals as goal

pub returns : goal.returns
returns c = old_closes
