-- The labels and symbols that a file can have.
use Rattle.std.specs.Prelude.{◌≡◌, ℕ, ◌≢◌, Bool, ◌&&◌, nat_le, List, [], IsTrue}
use Rattle.std.specs.List.{list_all}
use Rattle.me_terms.specs.Values.{LabelValue, SymbolValue}
use Rattle.me_terms.specs.declared.symbol.Form.{Form}
use Rattle.me_terms.specs.declared.symbol.Form.TheVariants.{Word, Distinct, Number}

-- A byte from the blank to the tilde.
abbrev pub is_printable : ℕ → Bool
is_printable byte = nat_le 32 byte && nat_le byte 126

-- A decimal digit.
abbrev pub is_digit : ℕ → Bool
is_digit byte = nat_le 48 byte && nat_le byte 57

-- A word has at least one printable byte, a distinct object any number of them, and a number at least one digit.
abbrev pub IsReadableAs : Form → List ℕ → Type 0
IsReadableAs Word text = (text ≢ []) × IsTrue (list_all is_printable text)
IsReadableAs Distinct text = IsTrue (list_all is_printable text)
IsReadableAs Number text = (text ≢ []) × IsTrue (list_all is_digit text)

-- The label's text is one that its form can have in a file.
abbrev pub IsReadable : LabelValue → Type 0
IsReadable label = IsReadableAs label.form label.text

-- A clause is named by a word or a number.
abbrev pub IsClauseLabel : LabelValue → Type 0
IsClauseLabel label = IsReadable label × (label.form ≢ Distinct)

-- A constant's label is a word or a distinct object, and that of a function with arguments a word.
abbrev pub IsFunctionForm : Form → ℕ → Type 0
IsFunctionForm Word arity = Unit {0}
IsFunctionForm Distinct arity = arity ≡ 0
IsFunctionForm Number arity = ⊥

abbrev pub IsFunctionSymbol : SymbolValue → Type 0
IsFunctionSymbol symbol = IsReadable symbol.label × IsFunctionForm symbol.label.form symbol.arity

-- A predicate's label is a word.
abbrev pub IsPredicateSymbol : SymbolValue → Type 0
IsPredicateSymbol symbol = IsReadable symbol.label × (symbol.label.form ≡ Word)
