-- The texts of labels.
use Rattle.std.specs.Prelude.{ℕ, List, if◌then◌else◌}
use Rattle.me_terms.specs.Values.{LabelValue}
use Rattle.me_terms.specs.declared.symbol.Form.{Form}
use Rattle.me_terms.specs.declared.symbol.Form.TheVariants.{Word, Distinct, Number}
use Rattle.tptp_tokens.specs.Bytes.{is_lower_word}
use Rattle.tptp_tokens.specs.Quoted.{quoted}

-- A word is bare where it is a lower word, else in single quotes; a distinct object is in double quotes; a number is its digits.
abbrev pub form_text : Form → List ℕ → List ℕ
form_text Word text = if is_lower_word text then text else quoted 39 text
form_text Distinct text = quoted 34 text
form_text Number text = text

abbrev pub label_text : LabelValue → List ℕ
label_text label = form_text label.form label.text
