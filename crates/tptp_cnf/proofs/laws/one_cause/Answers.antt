use Rattle.tptp_cnf.proofs.Causal.{one_cause}
use Rattle.tptp_cnf.proofs.laws.one_cause.Goals as goal

pub returns : goal.returns
returns c = one_cause
