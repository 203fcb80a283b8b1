use Rattle.problem_checks.proofs.ValidityTests.{valid_is}
use Rattle.problem_checks.proofs.validity.is_valid.Goals as goal

pub returns : goal.returns
returns c = rw c.passes_tests.ensures (valid_is c.args.problem.now)
