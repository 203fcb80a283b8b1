use Rattle.grammar_laws.proofs.Judged.{elsewhere}
use Rattle.grammar_laws.proofs.cut_short_elsewhere.Goals as goal

pub returns : goal.returns
returns c = elsewhere
