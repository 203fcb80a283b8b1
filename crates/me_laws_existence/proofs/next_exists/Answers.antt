use Rattle.me_laws_existence.proofs.NextStep.{next_step}
use Rattle.me_laws_existence.proofs.next_exists.Goals as goal

pub returns : goal.returns
returns c = next_step
