use Rattle.tptp_tokens.proofs.Firsts.{is_empty, is_some, single_first, single_empty, single_open, bad_found}
use Rattle.tptp_tokens.proofs.first.single_quoted.Goals as goal

pub returns-then-is_empty : goal.returns-then-is_empty
returns-then-is_empty c = bad_found _ _ _ _ c.bad.ensures.kind c.bad.ensures.inside c.bad.ensures.rest (single_empty _ _ _ _ _ c.requires.head c.requires.lead c.in-Some.ensures.some (is_empty _ _ c.is_empty.ensures c.if-is_empty.true))

pub returns-else-is_empty : goal.returns-else-is_empty
returns-else-is_empty c = single_first _ _ _ _ _ c.requires.head c.requires.lead c.in-Some.ensures.some (is_some _ _ c.is_empty.ensures c.if-is_empty.false)

pub returns-in-None : goal.returns-in-None
returns-in-None c = bad_found _ _ _ _ c.bad-in-None.ensures.kind c.bad-in-None.ensures.inside c.bad-in-None.ensures.rest (single_open _ _ _ c.requires.head c.requires.lead c.in-None.ensures.none)
