use Rattle.me_unify.proofs.MostGeneralExists.{most_general_exists}
use Rattle.me_unify.proofs.laws.most_general_unifiers_exist.Goals as goal

pub returns : goal.returns
returns c = most_general_exists
