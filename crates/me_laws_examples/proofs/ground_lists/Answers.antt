use Rattle.me_laws_examples.proofs.GroundLists.{ground_lists}
use Rattle.me_laws_examples.proofs.ground_lists.Goals as goal

pub returns : goal.returns
returns c = ground_lists
