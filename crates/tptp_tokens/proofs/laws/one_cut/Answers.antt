use Rattle.tptp_tokens.proofs.OneCut.{one_cut_from}
use Rattle.tptp_tokens.proofs.laws.one_cut.Goals as goal

pub returns : goal.returns
returns c = λ bytes tokens others h k. one_cut_from (record { at = 0; bytes = bytes }) tokens others h k
