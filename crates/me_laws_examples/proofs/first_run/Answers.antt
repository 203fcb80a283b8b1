use Rattle.me_laws_examples.proofs.FirstList.{first_run}
use Rattle.me_laws_examples.proofs.first_run.Goals as goal

pub returns : goal.returns
returns c = first_run
