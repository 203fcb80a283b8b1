use Rattle.me_laws.proofs.UnifierMeasures.{measured_alike}
use Rattle.me_laws.proofs.unifiers_measure_alike.Goals as goal

pub returns : goal.returns
returns c = measured_alike
