use Rattle.me_laws_examples.proofs.PartialRemainder.{partial_remainder}
use Rattle.me_laws_examples.proofs.partial_remainder.Goals as goal

pub returns : goal.returns
returns c = partial_remainder
