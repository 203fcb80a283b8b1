use Rattle.me_laws_increments.proofs.Tuples.{remainders_same}
use Rattle.me_laws_increments.proofs.remainders_stay.Goals as goal

pub returns : goal.returns
returns c = remainders_same
