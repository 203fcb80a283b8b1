use Rattle.std.proofs.Common.{◌∙◌, ◌<◌, ◌^◌, ◌∷◌, length, refl, sym, ap, arith}
use Rattle.std.specs.Prelude.{decimal}
use Rattle.tptp_tokens.specs.declared.token.TokenKind.TheVariants.{LowerWord}
use Rattle.szs_read.specs.Finds.{position_token}
use Rattle.szs_read.proofs.Advances.{bare_next, some_next, same_number, no_number, tail_is}
use Rattle.szs_read.proofs.entry.read_position.Goals as goal

pub returns-in_err-token-clause-same : goal.returns-in_err-token-clause-same
returns-in_err-token-clause-same c = λ at ts more few h. absurd (some_next (position_token at) ts (c.in_err-token.ensures.next (position_token at ∷ ts) h).0)

pub returns-in_err-digits-clause-same : goal.returns-in_err-digits-clause-same
returns-in_err-digits-clause-same c = λ at ts more few h.
    let next = c.in_ok-token.ensures.next (position_token at ∷ ts) h in
    let text = bare_next c.in_ok-token.token LowerWord (101 ∷ decimal at) ts (λ x. refl) next.0 in
    absurd (omega (arith, ap length text, c.in_err-digits.ensures.cases))

pub returns-in-Some-clause-same : goal.returns-in-Some-clause-same
returns-in-Some-clause-same c = λ at ts more few h.
    let next = c.in_ok-token.ensures.next (position_token at ∷ ts) h in
    let text = bare_next c.in_ok-token.token LowerWord (101 ∷ decimal at) ts (λ x. refl) next.0 in
    let small : at < 2 ^ 32 = omega (arith, few) in
    (sym c.in-Some.is ∙ c.number_of.ensures at small (tail_is _ _ _ _ (sym c.in_ok-digits.ensures.cases.0 ∙ text)), next.1)

pub returns-in_default-clause-same : goal.returns-in_default-clause-same
returns-in_default-clause-same c = λ at ts more few h.
    let next = c.in_ok-token.ensures.next (position_token at ∷ ts) h in
    let text = bare_next c.in_ok-token.token LowerWord (101 ∷ decimal at) ts (λ x. refl) next.0 in
    let small : at < 2 ^ 32 = omega (arith, few) in
    let found = c.number_of.ensures at small (tail_is _ _ _ _ (sym c.in_ok-digits.ensures.cases.0 ∙ text)) in
    absurd (omega (arith, few, c.if-at-lt-MAX_ENTRIES.false, same_number c.number_of.result c.in-Some.at at c.in-Some.is found))

pub returns-in_default-2-clause-same : goal.returns-in_default-2-clause-same
returns-in_default-2-clause-same c = λ at ts more few h.
    let next = c.in_ok-token.ensures.next (position_token at ∷ ts) h in
    let text = bare_next c.in_ok-token.token LowerWord (101 ∷ decimal at) ts (λ x. refl) next.0 in
    let small : at < 2 ^ 32 = omega (arith, few) in
    let found = c.number_of.ensures at small (tail_is _ _ _ _ (sym c.in_ok-digits.ensures.cases.0 ∙ text)) in
    absurd (omega (arith, more, c.if-last-at.false, same_number c.number_of.result c.in-Some.at at c.in-Some.is found))

pub returns-in_default-3-clause-same : goal.returns-in_default-3-clause-same
returns-in_default-3-clause-same c = λ at ts more few h.
    let next = c.in_ok-token.ensures.next (position_token at ∷ ts) h in
    let text = bare_next c.in_ok-token.token LowerWord (101 ∷ decimal at) ts (λ x. refl) next.0 in
    let small : at < 2 ^ 32 = omega (arith, few) in
    no_number c.number_of.result at c.in_default.is (c.number_of.ensures at small (tail_is _ _ _ _ (sym c.in_ok-digits.ensures.cases.0 ∙ text)))
