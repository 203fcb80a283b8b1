-- The tokens of terms and literals. Only the private calls of the reader speak of them.
use Rattle.std.specs.Prelude.{◌≤◌, ℕ, Bool, true, false, List, [], ◌∷◌, codes, decimal, length, slice_get, Option, Some, None}
use Rattle.me_terms.specs.Terms.{TermValue, Var, App, Arguments, Nil, Cons, AtomValue}
use Rattle.me_terms.specs.Values.{LabelValue, SymbolValue, SignatureValue}
use Rattle.me_terms.specs.declared.atom.Literal.{Literal}
use Rattle.me_terms.specs.declared.symbol.Form.{Form}
use Rattle.me_terms.specs.declared.symbol.Form.TheVariants.{Word, Distinct as DistinctForm, Number as NumberForm}
use Rattle.tptp_tokens.specs.Bytes.{is_lower_word}
use Rattle.tptp_tokens.specs.Gaps.{IsGap}
use Rattle.tptp_tokens.specs.Tokens.{TokenValue, IsToken, IsFirst}
use Rattle.tptp_tokens.specs.declared.token.TokenKind.{TokenKind}
use Rattle.tptp_tokens.specs.declared.token.TokenKind.TheVariants.{LowerWord, Variable, DollarWord, SingleQuoted, Distinct, Digits, OpenRound, CloseRound, Comma, Dot, Bar, Tilde, Bad}

-- a gap and then this token, which is not bad, and rest comes after it
pub record ComesFirst (bytes : List ℕ) (t : TokenValue) (rest : List ℕ) : Type 0 where
  pub middle : List ℕ
  pub gap : IsGap bytes middle
  pub within : length middle ≤ length bytes
  pub first : IsFirst t middle rest
  pub lawful : IsToken t

-- the bytes are cut into these tokens, of which none is bad
abbrev pub AreLeft : List ℕ → List TokenValue → Type 0
AreLeft bytes [] = IsGap bytes []
AreLeft bytes (t ∷ ts) = (rest : List ℕ) × ComesFirst bytes t rest × AreLeft rest ts

-- ---- names

abbrev pub token : TokenKind → List ℕ → TokenValue
token kind text = record { kind = kind; text = text }

abbrev pub word_token : Bool → List ℕ → TokenValue
word_token true text = token LowerWord text
word_token false text = token SingleQuoted text

abbrev pub form_token : Form → List ℕ → TokenValue
form_token Word text = word_token (is_lower_word text) text
form_token DistinctForm text = token Distinct text
form_token NumberForm text = token Digits text

abbrev pub label_token : LabelValue → TokenValue
label_token label = form_token label.form label.text

-- what is no symbol of the signature has no good token
abbrev pub symbol_token : Option SymbolValue → TokenValue
symbol_token None = token Bad []
symbol_token (Some symbol) = label_token symbol.label

abbrev pub variable_token : ℕ → TokenValue
variable_token x = token Variable (88 ∷ decimal x)

-- ---- signs

abbrev pub open_token : TokenValue
open_token = token OpenRound (codes "(")

abbrev pub close_token : TokenValue
close_token = token CloseRound (codes ")")

abbrev pub comma_token : TokenValue
comma_token = token Comma (codes ",")

abbrev pub dot_token : TokenValue
dot_token = token Dot (codes ".")

abbrev pub bar_token : TokenValue
bar_token = token Bar (codes "|")

abbrev pub tilde_token : TokenValue
tilde_token = token Tilde (codes "~")

abbrev pub false_token : TokenValue
false_token = token DollarWord (codes "$false")

-- ---- Each of the following is the tokens of a part of a line, and then the rest.

abbrev mutual
  pub term_then : SignatureValue → TermValue → List TokenValue → List TokenValue
  term_then signature (Var x) rest = variable_token x ∷ rest
  term_then signature (App f ts) rest = symbol_token (slice_get signature.functions f) ∷ arguments_then signature ts rest

  pub arguments_then : SignatureValue → Arguments → List TokenValue → List TokenValue
  arguments_then signature Nil rest = rest
  arguments_then signature (Cons t ts) rest = open_token ∷ term_then signature t (others_then signature ts rest)

  -- the arguments behind the first one, and the closing bracket
  pub others_then : SignatureValue → Arguments → List TokenValue → List TokenValue
  others_then signature Nil rest = close_token ∷ rest
  others_then signature (Cons t ts) rest = comma_token ∷ term_then signature t (others_then signature ts rest)

abbrev pub atom_then : SignatureValue → AtomValue → List TokenValue → List TokenValue
atom_then signature a rest = symbol_token (slice_get signature.predicates a.pred) ∷ arguments_then signature a.args rest

abbrev pub signed_then : SignatureValue → Bool → AtomValue → List TokenValue → List TokenValue
signed_then signature true a rest = atom_then signature a rest
signed_then signature false a rest = tilde_token ∷ atom_then signature a rest

abbrev pub literal_then : SignatureValue → Literal → List TokenValue → List TokenValue
literal_then signature l rest = signed_then signature l.positive l.atom rest

-- each literal behind a bar
abbrev pub barred_then : SignatureValue → List Literal → List TokenValue → List TokenValue
barred_then signature [] rest = rest
barred_then signature (l ∷ ls) rest = bar_token ∷ literal_then signature l (barred_then signature ls rest)

abbrev pub clause_then : SignatureValue → List Literal → List TokenValue → List TokenValue
clause_then signature [] rest = false_token ∷ rest
clause_then signature (l ∷ ls) rest = literal_then signature l (barred_then signature ls rest)
