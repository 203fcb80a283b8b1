-- What may stand between two tokens: blanks, and comments of a line or between /* and */.
use Rattle.std.specs.Prelude.{◌≡◌, ◌≢◌, ◌≤◌, ℕ, true, List, [], ◌∷◌, ◌++◌, length}
use Rattle.std.specs.List.{AllByRecursion}
use Rattle.tptp_tokens.specs.Bytes.{is_blank}

-- a blank, a comment with its text up to its line feed or up to the end of the file, and one with its text up to its */
pub data GapPiece : Type 0 where
  Blank : ℕ → GapPiece
  Line : List ℕ → GapPiece
  LastLine : List ℕ → GapPiece
  Block : List ℕ → GapPiece

-- no line feed is in the text
abbrev pub IsOneLine : List ℕ → Type 0
IsOneLine text = AllByRecursion (λ byte. byte ≢ 10) text

-- the first */ of the bytes stands behind this text, and rest comes after it
pub record IsFirstEnd (text bytes rest : List ℕ) : Type 0 where
  pub here : bytes ≡ text ++ 42 ∷ 47 ∷ rest
  pub first : (other after : List ℕ) → bytes ≡ other ++ 42 ∷ 47 ∷ after → length text ≤ length other

-- the piece stands at the front of the bytes, and rest comes after it
abbrev pub IsPiece : GapPiece → List ℕ → List ℕ → Type 0
IsPiece (Blank byte) bytes rest = (bytes ≡ byte ∷ rest) × (is_blank byte ≡ true)
IsPiece (Line text) bytes rest = (bytes ≡ 37 ∷ (text ++ 10 ∷ rest)) × IsOneLine text
IsPiece (LastLine text) bytes rest = (bytes ≡ 37 ∷ text) × IsOneLine text × (rest ≡ [])
IsPiece (Block text) bytes rest = (inside : List ℕ) × (bytes ≡ 47 ∷ 42 ∷ inside) × IsFirstEnd text inside rest

-- these pieces stand at the front of the bytes, and with rest, which comes after them, no further piece begins
abbrev pub Skips : List GapPiece → List ℕ → List ℕ → Type 0
Skips [] bytes rest = (rest ≡ bytes) × ((piece : GapPiece) (after : List ℕ) → IsPiece piece bytes after → ⊥)
Skips (piece ∷ pieces) bytes rest = (after : List ℕ) × IsPiece piece bytes after × Skips pieces after rest

-- the gap at the front of the bytes is as long as can be, and rest comes after it
abbrev pub IsGap : List ℕ → List ℕ → Type 0
IsGap bytes rest = (pieces : List GapPiece) × Skips pieces bytes rest
