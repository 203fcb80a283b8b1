use Rattle.me_laws_examples.proofs.SmallAnswers.{small_answers}
use Rattle.me_laws_examples.proofs.small_answers.Goals as goal

pub returns : goal.returns
returns c = small_answers
