use Rattle.me_laws_examples.proofs.AtTheBounds.{at_the_bounds}
use Rattle.me_laws_examples.proofs.at_the_bounds.Goals as goal

pub returns : goal.returns
returns c = at_the_bounds
