use Rattle.std.proofs.Common.{refl}
use Rattle.tptp_tokens.proofs.Quotes.{is_closed, never_closes}
use Rattle.tptp_tokens.proofs.quoted.closed.Goals as goal

pub returns-in-Some-clause-some : goal.returns-in-Some-clause-some
returns-in-Some-clause-some c = is_closed _ _ _ _ _ c.after_printables-end.ensures.parts c.in-Some.ensures.some refl

pub returns-in-None-clause-none : goal.returns-in-None-clause-none
returns-in-None-clause-none c = never_closes _ _ _ c.requires c.after_printables-end.ensures.parts c.after_printables-end.ensures.stops c.in-None.ensures.none
