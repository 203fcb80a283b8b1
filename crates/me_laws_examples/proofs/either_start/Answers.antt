use Rattle.me_laws_examples.proofs.EitherStart.{either_start}
use Rattle.me_laws_examples.proofs.either_start.Goals as goal

pub returns : goal.returns
returns c = either_start
