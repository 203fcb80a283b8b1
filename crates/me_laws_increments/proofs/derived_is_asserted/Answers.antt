use Rattle.me_laws_increments.proofs.Candidates.{derived_is_asserted}
use Rattle.me_laws_increments.proofs.derived_is_asserted.Goals as goal

pub returns : goal.returns
returns c = derived_is_asserted
