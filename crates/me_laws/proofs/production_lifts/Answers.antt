use Rattle.me_laws.proofs.Lifting.{lifted}
use Rattle.me_laws.proofs.production_lifts.Goals as goal

pub returns : goal.returns
returns c = lifted
