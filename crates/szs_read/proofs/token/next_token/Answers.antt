use Rattle.std.proofs.Common.{drop, None, sym, subst}
use Rattle.tptp_tokens.specs.Remainders.{Remainder}
use Rattle.szs_read.specs.LineTokens.{AreLeft}
use Rattle.szs_read.specs.Nexts.{IsNextOf}
use Rattle.szs_read.proofs.Advances.{next_some, next_bad, next_none}
use Rattle.szs_read.proofs.Tokens.{first_lawful}
use Rattle.szs_read.proofs.token.next_token.Goals as goal

pub returns-in_default : goal.returns-in_default
returns-in_default c = record {
  lawful = first_lawful _ _ _ _ c.in_default.not-Bad c.in-Some.ensures.some.first;
  shorter = c.in-Some.ensures.shorter;
  none = tt;
  next = λ ts h. next_some _ _ _ ts c.in-Some.ensures.some h;
}

pub returns-in-Bad-clause-next : goal.returns-in-Bad-clause-next
returns-in-Bad-clause-next c = λ ts h. absurd (next_bad _ _ c.in-Some.token ts c.in-Bad.is c.in-Some.ensures.some h)

pub returns-in-None-clause-next : goal.returns-in-None-clause-next
returns-in-None-clause-next c = λ ts h. subst (λ (r : Remainder). IsNextOf ts None × AreLeft r.bytes (drop 1 ts)) (sym c.in-None.ensures.unchanged) (next_none _ ts c.in-None.ensures.none h)
