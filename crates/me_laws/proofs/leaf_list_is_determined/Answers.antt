use Rattle.me_laws.proofs.OutcomeDetermined.{leaf_unique}
use Rattle.me_laws.proofs.leaf_list_is_determined.Goals as goal

pub returns : goal.returns
returns c = leaf_unique
