use Rattle.std.proofs.Common.{inl, inr, refl}
use Rattle.tptp_tokens.proofs.Numbers.{sign_found, sign_empty}
use Rattle.tptp_tokens.proofs.number.after_sign.Goals as goal

pub returns-in-Some : goal.returns-in-Some
returns-in-Some c = sign_found _ 43 _ c.in-Some.ensures.some (inr (inl refl))

pub returns-in-Some-after_byte : goal.returns-in-Some-after_byte
returns-in-Some-after_byte c = sign_found _ 45 _ c.in-Some-after_byte.ensures.some (inr (inr refl))

pub returns-in-None : goal.returns-in-None
returns-in-None c = sign_empty _ c.in_default.ensures.none c.in-None.ensures.none
