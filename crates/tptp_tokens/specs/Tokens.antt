-- How bytes are cut into tokens: from left to right, each as long as can be, with gaps between them.
use Rattle.std.specs.Prelude.{◌≡◌, ◌≢◌, ◌⊎◌, ◌≤◌, ℕ, ◌+◌, true, List, [], ◌∷◌, ◌++◌, length, IsTrue}
use Rattle.std.specs.List.{list_all}
use Rattle.me_terms.specs.Labels.{is_printable}
use Rattle.tptp_tokens.specs.Bytes.{is_upper_letter, is_word_byte, is_word, is_lower_word, is_other_sign}
use Rattle.tptp_tokens.specs.Gaps.{IsGap}
use Rattle.tptp_tokens.specs.Numbers.{IsDigits, IsNumber}
use Rattle.tptp_tokens.specs.Quoted.{quoted, unescaped}
use Rattle.tptp_tokens.specs.Remainders.{Remainder}
use Rattle.tptp_tokens.specs.declared.token.Token.{Token}
use Rattle.tptp_tokens.specs.declared.token.TokenKind.{TokenKind}
use Rattle.tptp_tokens.specs.declared.token.TokenKind.TheVariants.{LowerWord, Variable, DollarWord, SingleQuoted, Distinct, Digits, Number, OpenRound, CloseRound, OpenSquare, CloseSquare, Comma, Dot, Bar, Tilde, Equal, NotEqual, OtherSign, Bad}

-- a token: its kind and its text, which is that between the quotes with no backslash of a pair left, and all its bytes where it has no quotes
pub record TokenValue : Type 0 where
  pub kind : TokenKind
  pub text : List ℕ

-- a token with the place of its first byte
pub record PlacedToken : Type 0 where
  pub at : ℕ
  pub token : TokenValue

-- ---- each token for itself

-- one or two dollars, and then word bytes
abbrev pub IsDollarWord : List ℕ → Type 0
IsDollarWord text = (word : List ℕ) × ((text ≡ 36 ∷ word) ⊎ (text ≡ 36 ∷ 36 ∷ word)) × IsTrue (list_all is_word_byte word)

-- the texts of the tokens of a kind; those of a bad token depend on what comes after them, so none is given here
abbrev pub IsText : TokenKind → List ℕ → Type 0
IsText LowerWord text = IsTrue (is_lower_word text)
IsText Variable text = IsTrue (is_word is_upper_letter text)
IsText DollarWord text = IsDollarWord text
IsText SingleQuoted text = (text ≢ []) × IsTrue (list_all is_printable text)
IsText Distinct text = IsTrue (list_all is_printable text)
IsText Digits text = IsDigits text
IsText Number text = IsNumber text × (IsDigits text → ⊥)
IsText OpenRound text = text ≡ 40 ∷ []
IsText CloseRound text = text ≡ 41 ∷ []
IsText OpenSquare text = text ≡ 91 ∷ []
IsText CloseSquare text = text ≡ 93 ∷ []
IsText Comma text = text ≡ 44 ∷ []
IsText Dot text = text ≡ 46 ∷ []
IsText Bar text = text ≡ 124 ∷ []
IsText Tilde text = text ≡ 126 ∷ []
IsText Equal text = text ≡ 61 ∷ []
IsText NotEqual text = text ≡ 33 ∷ 61 ∷ []
IsText OtherSign text = (byte : ℕ) × (text ≡ byte ∷ []) × (is_other_sign byte ≡ true)
IsText Bad text = ⊥

-- the bytes of a token of a kind
abbrev pub written_as : TokenKind → List ℕ → List ℕ
written_as SingleQuoted text = quoted 39 text
written_as Distinct text = quoted 34 text
written_as kind text = text

abbrev pub IsToken : TokenValue → Type 0
IsToken token = IsText token.kind token.text

abbrev pub written : TokenValue → List ℕ
written token = written_as token.kind token.text

-- ---- the token at the front of bytes

-- Of all the tokens with which the bytes begin this is the longest, and rest comes after it.
pub record IsLongest (token : TokenValue) (bytes rest : List ℕ) : Type 0 where
  pub lawful : IsToken token
  pub parts : bytes ≡ written token ++ rest
  pub longest : (other : TokenValue) (after : List ℕ) → IsToken other → bytes ≡ written other ++ after → length (written other) ≤ length (written token)

-- the bytes begin with /*
abbrev pub OpensComment : List ℕ → Type 0
OpensComment bytes = (inside : List ℕ) × (bytes ≡ 47 ∷ 42 ∷ inside)

-- the bytes begin with no token: with another byte, or with a quote that has no second one or has a byte or a pair in between that may not stand there
abbrev pub BeginsNone : List ℕ → Type 0
BeginsNone bytes = (token : TokenValue) (rest : List ℕ) → IsToken token → bytes ≡ written token ++ rest → ⊥

-- Bytes that aren't empty and with which no gap begins, but a comment without an end or no token at all, are a bad token, up to the end.
pub record IsBad (bytes : List ℕ) : Type 0 where
  pub some : bytes ≢ []
  pub cause : OpensComment bytes ⊎ BeginsNone bytes

-- the bytes, with which no gap begins, begin with this token, and rest comes after it; nothing comes after a bad token
abbrev pub IsFirstAs : TokenKind → List ℕ → List ℕ → List ℕ → Type 0
IsFirstAs Bad text bytes rest = IsBad bytes × (text ≡ bytes) × (rest ≡ [])
IsFirstAs kind text bytes rest = IsLongest (record { kind = kind; text = text }) bytes rest × (OpensComment bytes → ⊥)

abbrev pub IsFirst : TokenValue → List ℕ → List ℕ → Type 0
IsFirst token bytes rest = IsFirstAs token.kind token.text bytes rest

-- ---- the cut of bytes into tokens

-- After a gap this token comes next, and then what is left. A place and the number of bytes from it on always sum to the same.
pub record IsNextToken (now : Remainder) (placed : PlacedToken) (left : Remainder) : Type 0 where
  pub middle : List ℕ
  pub gap : IsGap now.bytes middle
  pub first : IsFirst placed.token middle left.bytes
  pub place : placed.at + length middle ≡ now.at + length now.bytes
  pub end : left.at + length left.bytes ≡ now.at + length now.bytes

-- what is left is cut into these tokens: a gap is left at the end, or one token comes next and the others after it
abbrev pub IsCutFrom : Remainder → List PlacedToken → Type 0
IsCutFrom now [] = IsGap now.bytes []
IsCutFrom now (token ∷ tokens) = (left : Remainder) × IsNextToken now token left × IsCutFrom left tokens

-- the bytes of a file are cut into these tokens, each with its place from 0
abbrev pub IsCut : List ℕ → List PlacedToken → Type 0
IsCut bytes tokens = IsCutFrom (record { at = 0; bytes = bytes }) tokens

-- ---- the tokens of the code

-- the text of a token, from its bytes without its quotes
abbrev pub unquoted_text : TokenKind → List ℕ → List ℕ
unquoted_text SingleQuoted inside = unescaped inside
unquoted_text Distinct inside = unescaped inside
unquoted_text kind inside = inside

abbrev pub token_value : Token → TokenValue
token_value token = record { kind = token.kind; text = unquoted_text token.kind token.text.now }

abbrev pub placed_token : Token → PlacedToken
placed_token token = record { at = token.at; token = token_value token }
