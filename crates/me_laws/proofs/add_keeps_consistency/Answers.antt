use Rattle.me_laws.proofs.Consistency.{add_consistent}
use Rattle.me_laws.proofs.add_keeps_consistency.Goals as goal

pub returns : goal.returns
returns c = add_consistent
