use Rattle.tptp_tokens.proofs.Numbers.{tail_real}
use Rattle.tptp_tokens.proofs.number.after_tail.Goals as goal

pub returns-in-None : goal.returns-in-None
returns-in-None c = tail_real _ _ _ c.in-None.ensures.none c.after_fraction.ensures c.after_exponent.ensures
