use Rattle.std.proofs.Common.{refl}
use Rattle.tptp_tokens.proofs.Firsts.{number_first}
use Rattle.tptp_tokens.proofs.first.number.Goals as goal

pub returns : goal.returns
returns c = number_first _ _ _ _ c.requires refl c.number_kind.ensures
