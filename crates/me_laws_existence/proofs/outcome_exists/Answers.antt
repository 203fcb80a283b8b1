use Rattle.me_laws_existence.proofs.Outcomes.{outcome}
use Rattle.me_laws_existence.proofs.outcome_exists.Goals as goal

pub returns : goal.returns
returns c = outcome
