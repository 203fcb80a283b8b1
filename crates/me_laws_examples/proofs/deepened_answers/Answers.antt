use Rattle.me_laws_examples.proofs.DeepenedAnswers.{deepened_answers}
use Rattle.me_laws_examples.proofs.deepened_answers.Goals as goal

pub returns : goal.returns
returns c = deepened_answers
