use Rattle.me_laws.proofs.OutcomeDetermined.{answer_unique}
use Rattle.me_laws.proofs.answer_is_determined.Goals as goal

pub returns : goal.returns
returns c = answer_unique
