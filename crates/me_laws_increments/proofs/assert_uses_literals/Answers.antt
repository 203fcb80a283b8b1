use Rattle.me_laws_increments.proofs.Pairs.{assert_uses_literals}
use Rattle.me_laws_increments.proofs.assert_uses_literals.Goals as goal

pub returns : goal.returns
returns c = assert_uses_literals
