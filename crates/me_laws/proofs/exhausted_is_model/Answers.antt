use Rattle.me_laws.proofs.Model.{exhausted_model}
use Rattle.me_laws.proofs.exhausted_is_model.Goals as goal

pub returns : goal.returns
returns c = exhausted_model
