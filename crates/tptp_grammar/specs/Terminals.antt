-- Tokens as the grammar sees them: those that it reads alike are one, and the text is kept where it has a meaning.
use Rattle.std.specs.Prelude.{ℕ, Bool, true, false, List, map, codes, ◌||◌}
use Rattle.std.specs.Str.{bytes_eq}
use Rattle.tptp_tokens.specs.Tokens.{TokenValue, PlacedToken}
use Rattle.tptp_tokens.specs.declared.token.TokenKind.{TokenKind}
use Rattle.tptp_tokens.specs.declared.token.TokenKind.TheVariants as kind

pub data Terminal : Type 0 where
  LowerWord : List ℕ → Terminal
  SingleQuoted : List ℕ → Terminal
  Variable : List ℕ → Terminal
  Distinct : List ℕ → Terminal
  DollarWord : List ℕ → Terminal
  -- a number of digits alone, and any other
  Digits : List ℕ → Terminal
  Number : Terminal
  OpenRound : Terminal
  CloseRound : Terminal
  OpenSquare : Terminal
  CloseSquare : Terminal
  Comma : Terminal
  Dot : Terminal
  Bar : Terminal
  Tilde : Terminal
  -- = or !=
  Equality : Terminal
  OtherSign : Terminal
  Bad : Terminal

abbrev pub terminal_as : TokenKind → List ℕ → Terminal
terminal_as kind.LowerWord text = LowerWord text
terminal_as kind.SingleQuoted text = SingleQuoted text
terminal_as kind.Variable text = Variable text
terminal_as kind.Distinct text = Distinct text
terminal_as kind.DollarWord text = DollarWord text
terminal_as kind.Digits text = Digits text
terminal_as kind.Number text = Number
terminal_as kind.OpenRound text = OpenRound
terminal_as kind.CloseRound text = CloseRound
terminal_as kind.OpenSquare text = OpenSquare
terminal_as kind.CloseSquare text = CloseSquare
terminal_as kind.Comma text = Comma
terminal_as kind.Dot text = Dot
terminal_as kind.Bar text = Bar
terminal_as kind.Tilde text = Tilde
terminal_as kind.Equal text = Equality
terminal_as kind.NotEqual text = Equality
terminal_as kind.OtherSign text = OtherSign
terminal_as kind.Bad text = Bad

abbrev pub terminal : TokenValue → Terminal
terminal token = terminal_as token.kind token.text

abbrev pub terminals : List PlacedToken → List Terminal
terminals tokens = map (λ placed. terminal placed.token) tokens

-- the words that may stand in the role's place
abbrev pub is_role : List ℕ → Bool
is_role word = bytes_eq word (codes "axiom") || bytes_eq word (codes "hypothesis") || bytes_eq word (codes "definition") || bytes_eq word (codes "assumption")
    || bytes_eq word (codes "lemma") || bytes_eq word (codes "theorem") || bytes_eq word (codes "corollary")
    || bytes_eq word (codes "negated_conjecture") || bytes_eq word (codes "plain") || bytes_eq word (codes "unknown")

-- a token of notes that is no bracket: any but a full stop and a bad token
abbrev pub is_note : Terminal → Bool
is_note OpenRound = false
is_note CloseRound = false
is_note OpenSquare = false
is_note CloseSquare = false
is_note Dot = false
is_note Bad = false
is_note terminal = true
