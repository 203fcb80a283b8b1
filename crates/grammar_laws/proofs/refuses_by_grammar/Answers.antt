use Rattle.grammar_laws.proofs.Judged.{refuses}
use Rattle.grammar_laws.proofs.refuses_by_grammar.Goals as goal

pub returns : goal.returns
returns c = refuses
