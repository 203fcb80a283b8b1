use Rattle.me_laws_increments.proofs.Pairs.{close_uses_literals}
use Rattle.me_laws_increments.proofs.close_uses_literals.Goals as goal

pub returns : goal.returns
returns c = close_uses_literals
