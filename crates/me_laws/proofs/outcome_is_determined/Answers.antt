use Rattle.me_laws.proofs.OutcomeDetermined.{outcome_unique}
use Rattle.me_laws.proofs.outcome_is_determined.Goals as goal

pub returns : goal.returns
returns c = λ problem bounds context outcome other f g. outcome_unique f other g
