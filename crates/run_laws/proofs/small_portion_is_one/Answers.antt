use Rattle.run_laws.proofs.SmallPortion.{small_portion}
use Rattle.run_laws.proofs.small_portion_is_one.Goals as goal

pub returns : goal.returns
returns c = small_portion
