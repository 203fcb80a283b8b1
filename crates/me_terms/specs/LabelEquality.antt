-- Whether two labels or two symbols are equal, as tests that compute.
use Rattle.std.specs.Prelude.{ℕ, Bool, ◌&&◌, eqb}
use Rattle.std.specs.Cmp.Lexicographic.{pointwise}
use Rattle.me_terms.specs.Values.{LabelValue, SymbolValue}
use Rattle.me_terms.specs.declared.symbol.Form.{Form}
use Rattle.me_terms.specs.declared.symbol.Form.TheVariants.{Word, Distinct, Number}

abbrev pub form_rank : Form → ℕ
form_rank Word = 0
form_rank Distinct = 1
form_rank Number = 2

abbrev pub same_label : LabelValue → LabelValue → Bool
same_label a b = eqb (form_rank a.form) (form_rank b.form) && pointwise eqb a.text b.text

abbrev pub same_symbol : SymbolValue → SymbolValue → Bool
same_symbol a b = eqb a.arity b.arity && same_label a.label b.label
