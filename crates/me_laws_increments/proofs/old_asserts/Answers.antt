use Rattle.me_laws_increments.proofs.Candidates.{old_asserts}
use Rattle.me_laws_increments.proofs.old_asserts.Goals as goal

pub returns : goal.returns
returns c = old_asserts
