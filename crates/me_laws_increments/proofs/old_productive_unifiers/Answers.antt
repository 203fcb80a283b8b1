use Rattle.me_laws_increments.proofs.Candidates.{old_productive_unifiers}
use Rattle.me_laws_increments.proofs.old_productive_unifiers.Goals as goal

pub returns : goal.returns
returns c = old_productive_unifiers
