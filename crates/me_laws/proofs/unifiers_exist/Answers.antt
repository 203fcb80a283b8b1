use Rattle.me_laws.proofs.UnifiersExist.{unifiers_exist}
use Rattle.me_laws.proofs.unifiers_exist.Goals as goal

pub returns : goal.returns
returns c = unifiers_exist
