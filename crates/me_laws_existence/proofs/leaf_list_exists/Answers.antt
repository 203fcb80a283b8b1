use Rattle.me_laws.proofs.Backed.{grown_backed}
use Rattle.me_laws_existence.proofs.Outcomes.{leaf_list}
use Rattle.me_laws_existence.proofs.leaf_list_exists.Goals as goal

pub returns : goal.returns
returns c = λ problem bounds context c tuple h close. leaf_list problem bounds context (grown_backed h) c tuple close
