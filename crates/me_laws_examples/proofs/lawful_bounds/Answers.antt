use Rattle.me_laws_examples.proofs.LawfulBounds.{lawful_bounds}
use Rattle.me_laws_examples.proofs.lawful_bounds.Goals as goal

pub returns : goal.returns
returns c = lawful_bounds
