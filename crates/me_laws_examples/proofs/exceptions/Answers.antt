use Rattle.me_laws_examples.proofs.ExceptionCases.{exceptions}
use Rattle.me_laws_examples.proofs.exceptions.Goals as goal

pub returns : goal.returns
returns c = exceptions
