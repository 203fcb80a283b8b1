-- What the first token of bytes is found to be.
use Rattle.std.specs.Prelude.{◌≡◌, ℕ, true, List, ◌∷◌, ◌++◌, IsTrue, ◌≢◌, []}
use Rattle.std.specs.List.{list_all}
use Rattle.me_terms.specs.Labels.{is_printable}
use Rattle.tptp_tokens.specs.Gaps.{GapPiece, IsPiece}
use Rattle.tptp_tokens.specs.Quoted.{escaped, escaped_byte}
use Rattle.tptp_tokens.specs.Leads.{sign_kind}
use Rattle.tptp_tokens.specs.Tokens.{TokenValue, IsToken, written, IsFirstAs, unquoted_text}
use Rattle.tptp_tokens.specs.declared.token.TokenKind.TheVariants.{Bad}
use Rattle.tptp_tokens.specs.declared.first.Found.{Found}

-- the token that is found is the first token of the bytes
abbrev pub IsFound : List ℕ → Found → Type 0
IsFound bytes found = IsFirstAs found.kind (unquoted_text found.kind found.inside.now) bytes found.rest.now

-- each token with which the bytes begin is a sign of this byte alone
abbrev pub BeginsSignsAlone : ℕ → List ℕ → Type 0
BeginsSignsAlone byte bytes = (token : TokenValue) (rest : List ℕ) → IsToken token → bytes ≡ written token ++ rest → (written token ≡ byte ∷ []) × (sign_kind byte ≢ Bad)

-- behind a quote: a printable text as it is written in quotes, a second quote, and the rest
pub record IsClosedQuote (quote : ℕ) (inside bytes rest : List ℕ) : Type 0 where
  pub text : List ℕ
  pub each : IsTrue (list_all is_printable text)
  pub is : inside ≡ escaped quote text
  pub parts : bytes ≡ inside ++ quote ∷ rest

-- printable bytes as they are written in quotes, as many as stand at the front, and rest comes after them
pub record IsPrintables (quote : ℕ) (bytes rest : List ℕ) : Type 0 where
  pub text : List ℕ
  pub each : IsTrue (list_all is_printable text)
  pub parts : bytes ≡ escaped quote text ++ rest

-- the bytes begin with a printable byte as it is written in quotes, and rest comes after it
abbrev pub BeginsPrintable : ℕ → List ℕ → List ℕ → Type 0
BeginsPrintable quote bytes rest = (byte : ℕ) × (is_printable byte ≡ true) × (bytes ≡ escaped_byte quote byte ++ rest)

-- the line that stands behind its % ends, and rest comes after it
abbrev pub EndsLine : List ℕ → List ℕ → Type 0
EndsLine bytes rest = (piece : GapPiece) × IsPiece piece (37 ∷ bytes) rest
