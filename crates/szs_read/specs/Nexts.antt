-- What the next token of the code is. Only the private calls of the reader speak of it.
use Rattle.std.specs.Prelude.{◌≡◌, List, [], ◌∷◌, Option, Some, None}
use Rattle.tptp_tokens.specs.Tokens.{TokenValue, token_value}
use Rattle.tptp_tokens.specs.declared.token.Token.{Token}

-- the next token of these
abbrev pub IsNextOf : List TokenValue → Option Token → Type 0
IsNextOf [] next = next ≡ None
IsNextOf (t ∷ ts) next = (token : Token) × (next ≡ Some token) × (token_value token ≡ t)
