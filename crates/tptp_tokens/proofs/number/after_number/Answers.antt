use Rattle.tptp_tokens.proofs.Numbers.{number, number_none}
use Rattle.tptp_tokens.proofs.number.after_number.Goals as goal

pub returns-in-Some-clause-some : goal.returns-in-Some-clause-some
returns-in-Some-clause-some c = number _ _ _ _ c.after_sign.ensures c.in-Some.ensures.some c.after_tail.ensures

pub returns-in-None-clause-none : goal.returns-in-None-clause-none
returns-in-None-clause-none c = number_none _ _ c.after_sign.ensures c.in-None.ensures.none
