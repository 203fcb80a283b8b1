use Rattle.me_laws_existence.proofs.Outcomes.{only_answer}
use Rattle.me_laws_existence.proofs.exactly_one_answer.Goals as goal

pub returns : goal.returns
returns c = only_answer
