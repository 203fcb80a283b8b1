use Rattle.tptp_lines.proofs.Exact.{one_lines}
use Rattle.tptp_lines.proofs.laws.one_lines.Goals as goal

pub returns : goal.returns
returns c = one_lines
