use Rattle.tptp_include.proofs.Flattening.{one_flat}
use Rattle.tptp_include.proofs.laws.one_flat.Goals as goal

pub returns : goal.returns
returns c = one_flat
