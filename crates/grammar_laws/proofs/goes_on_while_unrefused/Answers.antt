use Rattle.grammar_laws.proofs.Judged.{goes_on}
use Rattle.grammar_laws.proofs.goes_on_while_unrefused.Goals as goal

pub returns : goal.returns
returns c = goes_on
