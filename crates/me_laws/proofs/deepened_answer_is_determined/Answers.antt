use Rattle.me_laws.proofs.Deepened.{deepened_unique}
use Rattle.me_laws.proofs.deepened_answer_is_determined.Goals as goal

pub returns : goal.returns
returns c = deepened_unique
