use Rattle.me_laws_examples.proofs.PlaceCases.{places}
use Rattle.me_laws_examples.proofs.places.Goals as goal

pub returns : goal.returns
returns c = places
