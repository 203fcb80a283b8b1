use Rattle.tptp_cnf.proofs.Causal.{refused_is_no_file}
use Rattle.tptp_cnf.proofs.laws.refused_is_no_file.Goals as goal

pub returns : goal.returns
returns c = refused_is_no_file
