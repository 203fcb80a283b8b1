-- The texts of tokens.
use Rattle.std.proofs.Common.{◌≡◌, ℕ, true, List, [], ◌∷◌, refl, arith}
use Rattle.std.proofs.lemmas.Bool.Decides.{nat_tests}
use Rattle.std.specs.List.{list_all}
use Rattle.me_terms.specs.Labels.{is_printable, IsReadableAs}
use Rattle.me_terms.specs.declared.symbol.Form.TheVariants.{Word}
use Rattle.tptp_tokens.specs.Bytes.{is_lower_letter, is_word_byte}
use Rattle.tptp_tokens.specs.Tokens.{IsText}
use Rattle.tptp_tokens.specs.declared.token.TokenKind.TheVariants.{LowerWord}
use Rattle.tptp_tokens.proofs.Runs.{all_first, all_more, word_parts}

word_byte_prints : (b : ℕ) → is_word_byte b ≡ true → is_printable b ≡ true
word_byte_prints b h = grind (arith, nat_tests)

lower_prints : (b : ℕ) → is_lower_letter b ≡ true → is_printable b ≡ true
lower_prints b h = grind (arith, nat_tests)

word_prints : (text : List ℕ) → list_all is_word_byte text ≡ true → list_all is_printable text ≡ true
word_prints [] h = refl
word_prints (b ∷ text) h = let f = all_first is_word_byte b text h in all_more is_printable b text (word_byte_prints b f.0) (word_prints text f.1)

pub lower_word_is_word : (text : List ℕ) → IsText LowerWord text → IsReadableAs Word text
lower_word_is_word [] h = absurd cc
lower_word_is_word (b ∷ text) h = let f = word_parts is_lower_letter b text h in ((λ e. cc), all_more is_printable b text (lower_prints b f.0) (word_prints text f.1))
