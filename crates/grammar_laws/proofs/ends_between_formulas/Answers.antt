use Rattle.grammar_laws.proofs.Judged.{ends}
use Rattle.grammar_laws.proofs.ends_between_formulas.Goals as goal

pub returns : goal.returns
returns c = ends
