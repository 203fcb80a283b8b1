use Rattle.me_laws_increments.proofs.Candidates.{found}
use Rattle.me_laws_increments.proofs.asserts_are_derived.Goals as goal

pub returns : goal.returns
returns c = found
