use Rattle.tptp_tokens.proofs.OneCut.{one_next}
use Rattle.tptp_tokens.proofs.laws.one_next.Goals as goal

pub returns : goal.returns
returns c = λ now token other left rest h k. let n = one_next now token other left rest h k in (n.token, n.left)
