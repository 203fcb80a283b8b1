-- The look-up of symbols by the bytes of their tokens. Only the private calls of the reader speak of it.
use Rattle.std.specs.Prelude.{◌≡◌, ℕ, true, List, Option, Some, if◌then◌else◌}
use Rattle.std.specs.List.{list_any}
use Rattle.std.specs.Map.{lookup}
use Rattle.std.specs.Str.{bytes_eq}
use Rattle.me_terms.specs.LabelEquality.{same_symbol}
use Rattle.me_terms.specs.Signatures.{number_of}
use Rattle.me_terms.specs.Values.{SymbolValue}
use Rattle.tptp_tokens.specs.Tokens.{unquoted_text}
use Rattle.tptp_tokens.specs.declared.token.TokenKind.{TokenKind}
use Rattle.tptp_grammar.specs.Terminals.{terminal_as}
use Rattle.tptp_cnf.specs.Meaning.{symbol}
use Rattle.tptp_cnf.specs.Rows.{label_as}
use Rattle.tptp_cnf.specs.declared.item.Item.{Item}
use Rattle.tptp_cnf.specs.declared.symbols.Met.{Met}
use Rattle.tptp_cnf.specs.declared.symbols.Name.{Name}

-- each name with the symbol that it was last met as
abbrev pub Entries : Type 0
Entries = List (Name × Met)

abbrev pub met_at : Entries → Name → Option Met
met_at entries name = lookup (λ x. bytes_eq name.bytes.now x.bytes.now) entries

-- the symbol of a name whose token is of this kind and has these bytes
abbrev pub symbol_by : TokenKind → List ℕ → ℕ → SymbolValue
symbol_by kind text arity = symbol (label_as (terminal_as kind (unquoted_text kind text))) arity

-- The symbol is one of these, and this is its number.
abbrev pub IsNumberOf : List SymbolValue → SymbolValue → ℕ → Type 0
IsNumberOf symbols s n = (list_any (same_symbol s) symbols ≡ true) × (n ≡ number_of s symbols)

-- Each name is noted with a symbol that it means, and with its number.
abbrev pub AreMet : List SymbolValue → Entries → Type 0
AreMet symbols entries = (name : Name) (m : Met) → met_at entries name ≡ Some m → IsNumberOf symbols (symbol_by m.kind name.bytes.now m.arity) m.number

-- The name is noted with this number.
abbrev pub IsNameNoted : Item → ℕ → Entries → Entries → Type 0
IsNameNoted i number old new = (name : Name) → met_at new name ≡ (if bytes_eq i.name.text.now name.bytes.now then Some (record { kind = i.name.kind; arity = i.arity; number = number }) else met_at old name)
