use Rattle.tptp_lines.proofs.Exact.{one_cause}
use Rattle.tptp_lines.proofs.laws.one_lines_cause.Goals as goal

pub returns : goal.returns
returns c = one_cause
