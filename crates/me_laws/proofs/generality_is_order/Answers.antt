use Rattle.me_laws.proofs.Generality.{generalizes_reflexive, generalizes_transitive}
use Rattle.me_laws.proofs.generality_is_order.Goals as goal

pub returns : goal.returns
returns c = record { reflexive = generalizes_reflexive; transitive = generalizes_transitive }
