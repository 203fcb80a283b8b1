use Rattle.me_laws_examples.proofs.GroundTerms.{ground_terms}
use Rattle.me_laws_examples.proofs.ground_terms.Goals as goal

pub returns : goal.returns
returns c = ground_terms
