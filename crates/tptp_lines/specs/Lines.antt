-- Which bytes are a file that may include files, and what its lines are.
use Rattle.std.specs.Prelude.{◌≡◌, ℕ, suc, List, [], ◌∷◌, map, Option, Some, None}
use Rattle.std.specs.List.{flat_map}
use Rattle.me_terms.specs.Values.{LabelValue}
use Rattle.tptp_tokens.specs.Tokens.{PlacedToken, IsCut}
use Rattle.tptp_grammar.specs.Terminals.{terminals}
use Rattle.tptp_grammar.specs.Printed.{printed}
use Rattle.tptp_grammar.specs.Files.{PassesNoLimit}
use Rattle.tptp_cnf.specs.Meaning.{label_of}
use Rattle.tptp_lines.specs.WrittenLines.{Selection, WrittenLine, FormulaLine, IncludeLine, line_terminals, formulas_of}

-- a line as it is read: a formula by its label, the place of its first byte, and the place behind its last one; or an include by the name of its file, and the names that it picks, or none
pub data LineValue : Type 0 where
  Formula : LabelValue → ℕ → ℕ → LineValue
  Include : List ℕ → Option (List LabelValue) → LineValue

-- a line with its tokens
pub record Piece : Type 0 where
  pub tokens : List PlacedToken
  pub written : WrittenLine
  pub same : terminals tokens ≡ line_terminals written

abbrev pub tokens_of : List Piece → List PlacedToken
tokens_of pieces = flat_map (λ p. p.tokens) pieces

abbrev pub lines_of : List Piece → List WrittenLine
lines_of pieces = map (λ p. p.written) pieces

-- the place of the first token
abbrev pub first_place : List PlacedToken → ℕ
first_place [] = 0
first_place (token ∷ tokens) = token.at

-- the place of the last token
abbrev pub last_place : List PlacedToken → ℕ
last_place [] = 0
last_place (token ∷ []) = token.at
last_place (token ∷ other ∷ tokens) = last_place (other ∷ tokens)

abbrev pub picks_of : Option Selection → Option (List LabelValue)
picks_of None = None
picks_of (Some s) = Some (label_of s.first ∷ map label_of s.others)

-- A formula goes from its first token to its full stop, which is one byte.
abbrev pub value_of : List PlacedToken → WrittenLine → LineValue
value_of tokens (FormulaLine f) = Formula (label_of f.label) (first_place tokens) (suc (last_place tokens))
value_of tokens (IncludeLine i) = Include i.file (picks_of i.selection)

abbrev pub piece_value : Piece → LineValue
piece_value p = value_of p.tokens p.written

-- The bytes are cut into the tokens of these lines, and the formulas among them are within the limits of a file. An include counts for no limit.
pub record AreLines (bytes : List ℕ) (lines : List LineValue) : Type 0 where
  pub pieces : List Piece
  pub cut : IsCut bytes (tokens_of pieces)
  pub within : PassesNoLimit (printed (formulas_of (lines_of pieces)))
  pub values : lines ≡ map piece_value pieces
