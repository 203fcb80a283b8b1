-- The program's lines as contracts see them.
use Rattle.std.specs.Prelude.{List, Option, Some, None}
use Rattle.me_terms.specs.Sequences.{SequenceValue}
use Rattle.me_terms.specs.Values.{LabelValue}
use Rattle.tptp_lines.specs.Lines.{LineValue}
use Rattle.tptp_lines.specs.Lines as pure
use Rattle.tptp_lines.specs.declared.line.Line.{Line}
use Rattle.tptp_lines.specs.declared.line.Line.TheVariants.{Formula, Include}

abbrev pub picks_value : Option (SequenceValue LabelValue) → Option (List LabelValue)
picks_value None = None
picks_value (Some labels) = Some labels.items

abbrev pub line_value : Line → LineValue
line_value (Formula label from to) = pure.Formula label from to
line_value (Include file picks) = pure.Include file.items (picks_value picks)
