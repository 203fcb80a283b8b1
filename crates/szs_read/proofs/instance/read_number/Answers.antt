use Rattle.std.proofs.Common.{◌∙◌, ◌<◌, ◌^◌, ◌∷◌, refl, sym, arith}
use Rattle.std.specs.Prelude.{decimal}
use Rattle.tptp_tokens.specs.declared.token.TokenKind.TheVariants.{Digits}
use Rattle.szs_read.specs.LineTokens.{token}
use Rattle.szs_read.proofs.Advances.{bare_next, some_next, same_number, no_number}
use Rattle.szs_read.proofs.instance.read_number.Goals as goal

pub returns-in-Some-number_of-clause-same : goal.returns-in-Some-number_of-clause-same
returns-in-Some-number_of-clause-same c = λ n ts one few h.
    let next = c.in-Some.ensures.next (token Digits (decimal n) ∷ ts) h in
    let small : n < 2 ^ 32 = omega (arith, few) in
    (sym c.in-Some-number_of.is ∙ c.number_of.ensures n small (bare_next c.in-Some.token Digits (decimal n) ts (λ x. refl) next.0), next.1)

pub returns-in_default-clause-same : goal.returns-in_default-clause-same
returns-in_default-clause-same c = λ n ts one few h.
    let next = c.in-Some.ensures.next (token Digits (decimal n) ∷ ts) h in
    let small : n < 2 ^ 32 = omega (arith, few) in
    let found = c.number_of.ensures n small (bare_next c.in-Some.token Digits (decimal n) ts (λ x. refl) next.0) in
    absurd (omega (arith, few, c.if-number-le-MAX_FORMULAS.false, same_number c.number_of.result c.in-Some-number_of.number n c.in-Some-number_of.is found))

pub returns-in_default-2-clause-same : goal.returns-in_default-2-clause-same
returns-in_default-2-clause-same c = λ n ts one few h.
    let next = c.in-Some.ensures.next (token Digits (decimal n) ∷ ts) h in
    let small : n < 2 ^ 32 = omega (arith, few) in
    let found = c.number_of.ensures n small (bare_next c.in-Some.token Digits (decimal n) ts (λ x. refl) next.0) in
    absurd (omega (arith, one, c.if-number-ge1.false, same_number c.number_of.result c.in-Some-number_of.number n c.in-Some-number_of.is found))

pub returns-in_default-3-clause-same : goal.returns-in_default-3-clause-same
returns-in_default-3-clause-same c = λ n ts one few h.
    let next = c.in-Some.ensures.next (token Digits (decimal n) ∷ ts) h in
    let small : n < 2 ^ 32 = omega (arith, few) in
    no_number c.number_of.result n c.in_default.is (c.number_of.ensures n small (bare_next c.in-Some.token Digits (decimal n) ts (λ x. refl) next.0))

pub returns-in-None-clause-same : goal.returns-in-None-clause-same
returns-in-None-clause-same c = λ n ts one few h. absurd (some_next (token Digits (decimal n)) ts (c.in-None.ensures.next (token Digits (decimal n) ∷ ts) h).0)
