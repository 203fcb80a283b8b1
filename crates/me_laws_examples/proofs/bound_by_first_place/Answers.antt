use Rattle.me_laws_examples.proofs.BoundByFirstPlace.{bound_by_first_place}
use Rattle.me_laws_examples.proofs.bound_by_first_place.Goals as goal

pub returns : goal.returns
returns c = bound_by_first_place
