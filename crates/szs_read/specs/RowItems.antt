-- The names of a row, as the private calls of the reader speak of them.
use Rattle.std.specs.Prelude.{◌≡◌, ℕ, zero, suc, ◌+◌, ◌-◌, min, Bool, true, false, List, [], ◌∷◌, ◌++◌, length, map, reverse, slice_get, Option, Some, None}
use Rattle.std.specs.List.{AllByRecursion}
use Rattle.me_terms.specs.Values.{SymbolValue, SignatureValue}
use Rattle.me_terms.specs.Variables.{count}
use Rattle.me_terms.specs.declared.atom.Literal.{Literal}
use Rattle.tptp_tokens.specs.Tokens.{TokenValue, IsToken, token_value}
use Rattle.tptp_tokens.specs.declared.token.TokenKind.{TokenKind}
use Rattle.tptp_tokens.specs.declared.token.TokenKind.TheVariants as kind
use Rattle.szs_read.specs.LineTokens.{label_token, symbol_token, variable_token}
use Rattle.szs_read.specs.Rows.{nodes_of}
use Rattle.szs_read.specs.declared.number.Node.{Node}
use Rattle.szs_read.specs.declared.number.Node.TheVariants.{Variable, Function}
use Rattle.szs_read.specs.declared.row.Item.{Item}
use Rattle.szs_read.specs.declared.row.Row.{Row}
use Rattle.szs_read.specs.declared.row.Stop.{Stop}
use Rattle.szs_read.specs.declared.row.Stop.TheVariants.{Bar, Other}

-- its name is a whole token
abbrev pub IsItem : Item → Type 0
IsItem item = IsToken (token_value item.name)

-- a name: its token, and how many arguments follow it
pub record NameValue : Type 0 where
  pub token : TokenValue
  pub arity : ℕ

abbrev pub item_value : Item → NameValue
item_value item = record { token = token_value item.name; arity = item.arity }

abbrev pub symbol_name : SymbolValue → NameValue
symbol_name symbol = record { token = label_token symbol.label; arity = symbol.arity }

abbrev pub node_name : List SymbolValue → Node → NameValue
node_name functions (Variable x) = record { token = variable_token x; arity = 0 }
node_name functions (Function f n) = record { token = symbol_token (slice_get functions f); arity = n }

-- the names of a literal over the signature, from left to right
abbrev pub literal_names : SignatureValue → Literal → List NameValue
literal_names signature l =
    (record { token = symbol_token (slice_get signature.predicates l.atom.pred); arity = count l.atom.args }) ∷ map (node_name signature.functions) (nodes_of l.atom.args)

-- the tokens that can be names
abbrev pub is_name_kind : TokenKind → Bool
is_name_kind kind.LowerWord = true
is_name_kind kind.SingleQuoted = true
is_name_kind kind.Distinct = true
is_name_kind kind.Variable = true
is_name_kind k = false

abbrev pub AreNames : List NameValue → Type 0
AreNames names = AllByRecursion (λ n. is_name_kind n.token.kind ≡ true) names

-- ---- a literal as far as it is read

-- its sign, its names, and the places of those whose arguments are being read, the innermost first
pub record RowValue : Type 0 where
  pub positive : Bool
  pub names : List NameValue
  pub enclosing : List ℕ

abbrev pub row_value : Row → RowValue
row_value row = record { positive = row.positive; names = map item_value row.items.items; enclosing = reverse row.enclosing.items }

-- one argument more of the name at this place; a count stops at the greatest u32
abbrev pub counted_at : ℕ → List NameValue → List NameValue
counted_at p [] = []
counted_at zero (n ∷ ns) = record { token = n.token; arity = min (n.arity + 1) 0xffff_ffff } ∷ ns
counted_at (suc p) (n ∷ ns) = n ∷ counted_at p ns

-- one argument more of the innermost name whose arguments are being read
abbrev pub counted : List ℕ → List NameValue → List NameValue
counted [] ns = ns
counted (p ∷ places) ns = counted_at p ns

abbrev pub counted_row : RowValue → RowValue
counted_row row = record { positive = row.positive; names = counted row.enclosing row.names; enclosing = row.enclosing }

abbrev pub with_name : RowValue → TokenValue → RowValue
with_name row t = record { positive = row.positive; names = counted row.enclosing row.names ++ (record { token = t; arity = 0 }) ∷ []; enclosing = row.enclosing }

abbrev pub with_open : RowValue → RowValue
with_open row = record { positive = row.positive; names = row.names; enclosing = (length row.names - 1) ∷ row.enclosing }

abbrev pub closed_as : RowValue → List ℕ → Option RowValue
closed_as row [] = None
closed_as row (p ∷ places) = Some (record { positive = row.positive; names = row.names; enclosing = places })

abbrev pub inside_as : RowValue → List ℕ → Option RowValue
inside_as row [] = None
inside_as row (p ∷ places) = Some row

-- the row with a token of a kind more; there is none where the literal ends before it
abbrev pub with_token : RowValue → TokenKind → TokenValue → Option RowValue
with_token row kind.Tilde t = Some (record { positive = false; names = row.names; enclosing = row.enclosing })
with_token row kind.LowerWord t = Some (with_name row t)
with_token row kind.SingleQuoted t = Some (with_name row t)
with_token row kind.Distinct t = Some (with_name row t)
with_token row kind.Variable t = Some (with_name row t)
with_token row kind.OpenRound t = Some (with_open row)
with_token row kind.CloseRound t = closed_as row row.enclosing
with_token row kind.Comma t = inside_as row row.enclosing
with_token row kind.DollarWord t = Some row
with_token row k t = None

abbrev pub stop_at : TokenKind → Stop
stop_at kind.Bar = Bar
stop_at k = Other

-- what a token makes of a row
abbrev pub IsTaken : RowValue → TokenValue → RowValue → Option Stop → Type 0
IsTaken old t new None = with_token old t.kind t ≡ Some new
IsTaken old t new (Some stop) = (with_token old t.kind t ≡ None) × (new ≡ old) × (stop ≡ stop_at t.kind)

-- ---- a whole literal

abbrev pub StopsBefore : TokenKind → Stop → Type 0
StopsBefore kind.Bar stop = stop ≡ Bar
StopsBefore kind.Comma stop = stop ≡ Other
StopsBefore k stop = ⊥

-- a literal ends before these tokens
abbrev pub StopsAt : List TokenValue → Stop → Type 0
StopsAt [] stop = stop ≡ Other
StopsAt (t ∷ ts) stop = StopsBefore t.kind stop

-- the row has the sign and the names of the literal
pub record IsRowOf (signature : SignatureValue) (l : Literal) (row : Row) : Type 0 where
  pub positive : row.positive ≡ l.positive
  pub names : map item_value row.items.items ≡ literal_names signature l
