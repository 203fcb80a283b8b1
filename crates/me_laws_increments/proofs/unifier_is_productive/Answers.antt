use Rattle.me_laws_increments.proofs.Candidates.{unifier_is_productive}
use Rattle.me_laws_increments.proofs.unifier_is_productive.Goals as goal

pub returns : goal.returns
returns c = unifier_is_productive
