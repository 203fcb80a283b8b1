use Rattle.me_laws_increments.proofs.SmallTuples.{small_tuples_example}
use Rattle.me_laws_increments.proofs.small_tuples_example.Goals as goal

pub returns : goal.returns
returns c = small_tuples_example
