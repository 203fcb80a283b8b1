use Rattle.tptp_grammar.proofs.Unique as laws
use Rattle.tptp_grammar.proofs.laws.none_refused.Goals as goal

pub returns : goal.returns
returns c = laws.none_refused
