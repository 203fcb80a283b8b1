use Rattle.me_laws_examples.proofs.SplitOutcomes.{outcomes_are_joined}
use Rattle.me_laws_examples.proofs.outcomes_are_joined.Goals as goal

pub returns : goal.returns
returns c = outcomes_are_joined
