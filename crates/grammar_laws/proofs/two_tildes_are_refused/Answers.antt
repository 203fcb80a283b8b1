use Rattle.grammar_laws.proofs.TwoTildesRefused.{two_tildes}
use Rattle.grammar_laws.proofs.two_tildes_are_refused.Goals as goal

pub returns : goal.returns
returns c = two_tildes
