use Rattle.me_laws_increments.proofs.Replacement.{covered_later}
use Rattle.me_laws_increments.proofs.covered_stays_covered.Goals as goal

pub returns : goal.returns
returns c = covered_later
