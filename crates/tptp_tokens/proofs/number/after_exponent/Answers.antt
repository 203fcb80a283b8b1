use Rattle.tptp_tokens.proofs.Numbers.{exponent_none}
use Rattle.tptp_tokens.proofs.number.after_exponent.Goals as goal

pub returns-in-None : goal.returns-in-None
returns-in-None c = exponent_none _ c.in_default.ensures.none c.in-None.ensures.none
