use Rattle.tptp_include.proofs.Flattening.{one_outcome}
use Rattle.tptp_include.proofs.laws.one_outcome.Goals as goal

pub returns : goal.returns
returns c = one_outcome
