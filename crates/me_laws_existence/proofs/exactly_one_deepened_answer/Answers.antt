use Rattle.me_laws_existence.proofs.Deepening.{only_deepened}
use Rattle.me_laws_existence.proofs.exactly_one_deepened_answer.Goals as goal

pub returns : goal.returns
returns c = only_deepened
