use Rattle.made_laws.proofs.MadeRoom.{made_roomy}
use Rattle.made_laws.proofs.made_is_roomy.Goals as goal

pub returns : goal.returns
returns c = made_roomy
