use Rattle.tptp_cnf.proofs.Causal.{one_problem}
use Rattle.tptp_cnf.proofs.laws.one_problem.Goals as goal

pub returns : goal.returns
returns c = one_problem
