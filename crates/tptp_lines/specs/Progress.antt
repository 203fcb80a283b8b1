-- What was read of lines so far: what each token adds to it. Only the private calls of the reader speak of it.
use Rattle.std.specs.Prelude.{ℕ, suc, List, [], ◌∷◌, ◌++◌, Option, Some, None}
use Rattle.me_terms.specs.Values.{LabelValue}
use Rattle.tptp_grammar.specs.Terminals.{Terminal, LowerWord, SingleQuoted, Digits, OpenRound, CloseRound, OpenSquare, CloseSquare, Comma, Dot}
use Rattle.tptp_grammar.specs.Machine.{part_at}
use Rattle.tptp_grammar.specs.Readings.{Reading}
use Rattle.tptp_grammar.specs.declared.part.Part.{Part}
use Rattle.tptp_grammar.specs.declared.part.Part.TheVariants as part
use Rattle.tptp_cnf.specs.Rows.{label_as, no_label}
use Rattle.tptp_lines.specs.Lines.{LineValue, Formula, Include}
use Rattle.tptp_lines.specs.declared.stage.Stage.{Stage}
use Rattle.tptp_lines.specs.declared.stage.Stage.TheVariants as stage

-- the lines so far, and what was read of the next one: the label and the place of a formula, or the file and the names of an include
pub record Progress : Type 0 where
  pub reading : Reading
  pub stage : Stage
  pub label : LabelValue
  pub from : ℕ
  pub file : List ℕ
  pub picks : List LabelValue
  pub lines : List LineValue

abbrev pub some_picks : List LabelValue → Option (List LabelValue)
some_picks [] = None
some_picks (label ∷ labels) = Some (label ∷ labels)

-- a token at this place, which is this part of a formula, behind which the machine has this reading
abbrev pub formula_fed : Part → ℕ → Terminal → Reading → Progress → Progress
formula_fed part.Formula at t u p = record { reading = u; stage = p.stage; label = p.label; from = at; file = p.file; picks = p.picks; lines = p.lines }
formula_fed part.Label at t u p = record { reading = u; stage = p.stage; label = label_as t; from = p.from; file = p.file; picks = p.picks; lines = p.lines }
formula_fed part.End at t u p = record { reading = u; stage = p.stage; label = no_label; from = p.from; file = p.file; picks = p.picks; lines = p.lines ++ Formula p.label p.from (suc at) ∷ [] }
formula_fed _ at t u p = record { reading = u; stage = p.stage; label = p.label; from = p.from; file = p.file; picks = p.picks; lines = p.lines }

-- the stage behind a token of an include; None where no include goes on with it
abbrev pub include_step : Stage → Terminal → Option Stage
include_step stage.Included OpenRound = Some stage.Opened
include_step stage.Opened (SingleQuoted text) = Some stage.Named
include_step stage.Named Comma = Some stage.Selecting
include_step stage.Named CloseRound = Some stage.Closed
include_step stage.Selecting OpenSquare = Some stage.Picking
include_step stage.Picking (LowerWord text) = Some stage.Picked
include_step stage.Picking (SingleQuoted text) = Some stage.Picked
include_step stage.Picking (Digits text) = Some stage.Picked
include_step stage.Picked Comma = Some stage.Picking
include_step stage.Picked CloseSquare = Some stage.Selected
include_step stage.Selected CloseRound = Some stage.Closed
include_step stage.Closed Dot = Some stage.Formula
include_step s t = None

abbrev pub text_of_name : Terminal → List ℕ
text_of_name (SingleQuoted text) = text
text_of_name t = []

-- what a token of an include adds at a stage
abbrev pub include_fed : Stage → Terminal → Progress → Progress
include_fed stage.Opened t p = record { reading = p.reading; stage = p.stage; label = p.label; from = p.from; file = text_of_name t; picks = []; lines = p.lines }
include_fed stage.Picking t p = record { reading = p.reading; stage = p.stage; label = p.label; from = p.from; file = p.file; picks = p.picks ++ label_as t ∷ []; lines = p.lines }
include_fed stage.Closed t p = record { reading = p.reading; stage = p.stage; label = p.label; from = p.from; file = []; picks = []; lines = p.lines ++ Include p.file (some_picks p.picks) ∷ [] }
include_fed s t p = p

abbrev pub at_stage : Stage → Progress → Progress
at_stage s p = record { reading = p.reading; stage = s; label = p.label; from = p.from; file = p.file; picks = p.picks; lines = p.lines }
