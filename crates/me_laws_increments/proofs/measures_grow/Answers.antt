use Rattle.me_laws_increments.proofs.Prefixes.{measures_grow}
use Rattle.me_laws_increments.proofs.measures_grow.Goals as goal

pub returns : goal.returns
returns c = measures_grow
