-- A first token that is not bad is a whole token.
use Rattle.std.proofs.Common.{◌≡◌, ◌⊎◌, inl, inr, ℕ, List, refl, subst}
use Rattle.me_terms.specs.Labels.{IsReadableAs}
use Rattle.me_terms.specs.declared.symbol.Form.TheVariants as form
use Rattle.tptp_tokens.proofs.Texts.{lower_word_is_word}
use Rattle.tptp_tokens.specs.Tokens.{IsText, IsFirstAs}
use Rattle.tptp_tokens.specs.declared.token.TokenKind.{TokenKind}
use Rattle.tptp_tokens.specs.declared.token.TokenKind.TheVariants as kind

pub first_lawful : (k : TokenKind) (text bytes rest : List ℕ) → (k ≡ kind.Bad → ⊥) → IsFirstAs k text bytes rest → IsText k text
first_lawful kind.LowerWord text bytes rest n h = h.0.lawful
first_lawful kind.Variable text bytes rest n h = h.0.lawful
first_lawful kind.DollarWord text bytes rest n h = h.0.lawful
first_lawful kind.SingleQuoted text bytes rest n h = h.0.lawful
first_lawful kind.Distinct text bytes rest n h = h.0.lawful
first_lawful kind.Digits text bytes rest n h = h.0.lawful
first_lawful kind.Number text bytes rest n h = h.0.lawful
first_lawful kind.OpenRound text bytes rest n h = h.0.lawful
first_lawful kind.CloseRound text bytes rest n h = h.0.lawful
first_lawful kind.OpenSquare text bytes rest n h = h.0.lawful
first_lawful kind.CloseSquare text bytes rest n h = h.0.lawful
first_lawful kind.Comma text bytes rest n h = h.0.lawful
first_lawful kind.Dot text bytes rest n h = h.0.lawful
first_lawful kind.Bar text bytes rest n h = h.0.lawful
first_lawful kind.Tilde text bytes rest n h = h.0.lawful
first_lawful kind.Equal text bytes rest n h = h.0.lawful
first_lawful kind.NotEqual text bytes rest n h = h.0.lawful
first_lawful kind.OtherSign text bytes rest n h = h.0.lawful
first_lawful kind.Bad text bytes rest n h = absurd (n refl)

pub word_readable : (k : TokenKind) → (k ≡ kind.LowerWord) ⊎ (k ≡ kind.SingleQuoted) → (text : List ℕ) → IsText k text → IsReadableAs form.Word text
word_readable k (inl e) text h = lower_word_is_word text (subst (λ (x : TokenKind). IsText x text) e h)
word_readable k (inr e) text h = subst (λ (x : TokenKind). IsText x text) e h
