use Rattle.me_laws_increments.proofs.Prefixes.{fixed_comes_down}
use Rattle.me_laws_increments.proofs.fixed_comes_down.Goals as goal

pub returns : goal.returns
returns c = fixed_comes_down
