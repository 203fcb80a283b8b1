use Rattle.tptp_tokens.proofs.Numbers.{power_some_of, power_none_of, power_other}
use Rattle.tptp_tokens.proofs.number.after_power.Goals as goal

pub returns-in-Some-clause-some : goal.returns-in-Some-clause-some
returns-in-Some-clause-some c = power_some_of _ _ _ _ _ c.in-Some.ensures.some c.after_sign.ensures c.after_digits.ensures.some

pub returns-in-Some-clause-none : goal.returns-in-Some-clause-none
returns-in-Some-clause-none c = power_none_of _ _ _ _ _ c.in-Some.ensures.some c.after_sign.ensures c.after_digits.ensures.none

pub returns-in-None-clause-none : goal.returns-in-None-clause-none
returns-in-None-clause-none c = power_other _ _ c.in-None.ensures.none
