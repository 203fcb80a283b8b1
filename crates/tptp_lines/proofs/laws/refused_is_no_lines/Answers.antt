use Rattle.tptp_lines.proofs.Exact.{refused_is_no_lines}
use Rattle.tptp_lines.proofs.laws.refused_is_no_lines.Goals as goal

pub returns : goal.returns
returns c = refused_is_no_lines
