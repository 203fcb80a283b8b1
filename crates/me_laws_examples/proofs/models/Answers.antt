use Rattle.me_laws_examples.proofs.ModelCases.{models}
use Rattle.me_laws_examples.proofs.models.Goals as goal

pub returns : goal.returns
returns c = models
