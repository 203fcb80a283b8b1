use Rattle.me_laws_existence.proofs.Deepening.{from_last}
use Rattle.me_laws_existence.proofs.deepening_from_the_last_depth.Goals as goal

pub returns : goal.returns
returns c = from_last
