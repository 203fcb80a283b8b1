use Rattle.std.proofs.Common.{refl, sym, ◌∙◌}
use Rattle.tptp_tokens.proofs.Firsts.{one_front, bad_found, sign_bad, sign_first, found_is}
use Rattle.tptp_tokens.proofs.first.sign.Goals as goal

pub up_to-requires : goal.up_to-requires
up_to-requires c = one_front _ _ _ c.requires.head

pub returns-in-Bad : goal.returns-in-Bad
returns-in-Bad c = bad_found _ _ _ _ c.bad.ensures.kind c.bad.ensures.inside c.bad.ensures.rest (sign_bad _ _ _ c.requires.head c.requires.signs (sym c.in-Bad.ensures))

pub returns-in_default : goal.returns-in_default
returns-in_default c = found_is _ _ _ _ _ _ refl c.up_to.ensures.rest (sign_first _ _ _ _ _ c.requires.head c.requires.signs c.requires.no_comment (c.up_to.ensures.kind ∙ c.sign_kind.ensures) (λ e. c.in_default.not-Bad (sym c.up_to.ensures.kind ∙ e)) c.up_to.ensures.parts)
