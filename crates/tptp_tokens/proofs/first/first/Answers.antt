use Rattle.tptp_tokens.proofs.Firsts.{bad_comment, bad_found}
use Rattle.tptp_tokens.proofs.first.first.Goals as goal

pub returns-in-Some-after_pair-clause-some : goal.returns-in-Some-after_pair-clause-some
returns-in-Some-after_pair-clause-some c = bad_found _ _ _ _ c.bad.ensures.kind c.bad.ensures.inside c.bad.ensures.rest (bad_comment _ _ c.in-Some-after_pair.ensures.some)
