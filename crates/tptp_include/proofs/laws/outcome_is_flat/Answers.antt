use Rattle.tptp_include.proofs.Flattening.{outcome_is_flat}
use Rattle.tptp_include.proofs.laws.outcome_is_flat.Goals as goal

pub returns : goal.returns
returns c = outcome_is_flat
