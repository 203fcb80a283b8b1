use Rattle.me_laws_increments.proofs.Candidates.{old_splits}
use Rattle.me_laws_increments.proofs.old_splits.Goals as goal

pub returns : goal.returns
returns c = old_splits
