use Rattle.me_laws_examples.proofs.GeneralityCases.{generality}
use Rattle.me_laws_examples.proofs.generality.Goals as goal

pub returns : goal.returns
returns c = generality
