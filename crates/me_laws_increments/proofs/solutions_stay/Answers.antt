use Rattle.me_laws_increments.proofs.Tuples.{solutions_stay}
use Rattle.me_laws_increments.proofs.solutions_stay.Goals as goal

pub returns : goal.returns
returns c = solutions_stay
