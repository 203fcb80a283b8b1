use Rattle.tptp_tokens.proofs.Numbers.{fraction_some, fraction_none}
use Rattle.tptp_tokens.proofs.number.after_fraction.Goals as goal

pub returns-in-Some : goal.returns-in-Some
returns-in-Some c = fraction_some _ _ c.in-Some.ensures.some

pub returns-in-None : goal.returns-in-None
returns-in-None c = fraction_none _ c.in-None.ensures.none
