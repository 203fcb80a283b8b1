use Rattle.me_laws_increments.proofs.Prefixes.{production_comes_down}
use Rattle.me_laws_increments.proofs.production_comes_down.Goals as goal

pub returns : goal.returns
returns c = production_comes_down
