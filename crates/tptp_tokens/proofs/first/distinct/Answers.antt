use Rattle.tptp_tokens.proofs.Firsts.{distinct_first, distinct_open, bad_found}
use Rattle.tptp_tokens.proofs.first.distinct.Goals as goal

pub returns-in-Some : goal.returns-in-Some
returns-in-Some c = distinct_first _ _ _ _ _ c.requires.head c.requires.lead c.in-Some.ensures.some

pub returns-in-None : goal.returns-in-None
returns-in-None c = bad_found _ _ _ _ c.bad.ensures.kind c.bad.ensures.inside c.bad.ensures.rest (distinct_open _ _ _ c.requires.head c.requires.lead c.in-None.ensures.none)
