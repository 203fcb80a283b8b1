use Rattle.me_terms.proofs.Matchers.{matches_iff}
use Rattle.me_terms.proofs.matching.is_instance.Goals as goal

pub returns-then-general-special : goal.returns-then-general-special
returns-then-general-special c =
    rw (← c.general.view_is, ← c.special.view_is) (matches_iff _ _ c.agree.result c.if-general-special.true c.agree.ensures)
