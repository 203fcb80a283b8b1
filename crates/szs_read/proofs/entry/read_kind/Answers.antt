use Rattle.std.proofs.Common.{◌∙◌, ◌∷◌, refl, sym}
use Rattle.std.specs.Cmp.Lexicographic.{same_text, other_text}
use Rattle.tptp_tokens.specs.declared.token.TokenKind.TheVariants.{LowerWord}
use Rattle.szs_print.specs.ModelText.{kind_text}
use Rattle.szs_read.specs.Finds.{kind_token}
use Rattle.szs_read.proofs.Advances.{bare_next, some_next}
use Rattle.szs_read.proofs.LineCuts.{universal_is, parametric_is}
use Rattle.szs_read.proofs.entry.read_kind.Goals as goal

pub returns-in_err-token : goal.returns-in_err-token
returns-in_err-token c = λ kind ts h. absurd (some_next (kind_token kind) ts (c.in_err-token.ensures.next (kind_token kind ∷ ts) h).0)

pub returns-then-eq : goal.returns-then-eq
returns-then-eq c = λ kind ts h.
    let next = c.in_ok-token.ensures.next (kind_token kind ∷ ts) h in
    let text = bare_next c.in_ok-token.token LowerWord (kind_text kind) ts (λ x. refl) next.0 in
    universal_is kind (sym text ∙ same_text _ _ c.if-eq.ensures ∙ c.as_slice.ensures)

pub returns-else-eq : goal.returns-else-eq
returns-else-eq c = λ kind ts h.
    let next = c.in_ok-token.ensures.next (kind_token kind ∷ ts) h in
    let text = bare_next c.in_ok-token.token LowerWord (kind_text kind) ts (λ x. refl) next.0 in
    parametric_is kind (λ e. other_text _ _ c.if-eq.ensures (text ∙ e ∙ sym c.as_slice.ensures))
