use Rattle.me_laws_examples.proofs.ValidProblems.{valid_problems}
use Rattle.me_laws_examples.proofs.valid_problems.Goals as goal

pub returns : goal.returns
returns c = valid_problems
