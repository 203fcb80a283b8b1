use Rattle.tptp_tokens.proofs.Numbers.{behind_some_of, behind_none_of, behind_other}
use Rattle.tptp_tokens.proofs.number.after_digits_behind.Goals as goal

pub returns-in-Some-clause-some : goal.returns-in-Some-clause-some
returns-in-Some-clause-some c = behind_some_of _ _ _ _ c.in-Some.ensures.some c.after_digits.ensures.some

pub returns-in-Some-clause-none : goal.returns-in-Some-clause-none
returns-in-Some-clause-none c = behind_none_of _ _ _ _ c.in-Some.ensures.some c.after_digits.ensures.none

pub returns-in-None-clause-none : goal.returns-in-None-clause-none
returns-in-None-clause-none c = behind_other _ _ c.in-None.ensures.none
