use Rattle.made_laws.proofs.Made.{made_once}
use Rattle.made_laws.proofs.made_problem_is_determined.Goals as goal

pub returns : goal.returns
returns c = made_once
