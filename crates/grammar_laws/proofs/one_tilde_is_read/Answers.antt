use Rattle.grammar_laws.proofs.TwoTildesRefused.{one_tilde}
use Rattle.grammar_laws.proofs.one_tilde_is_read.Goals as goal

pub returns : goal.returns
returns c = one_tilde
