-- What the machine of the code has read and counted.
use Rattle.std.specs.Prelude.{suc, ◌+◌, Bool, true, false, [], map}
use Rattle.tptp_grammar.specs.Limits.{begins_formula, begins_literal}
use Rattle.tptp_grammar.specs.Machine.{open_if}
use Rattle.tptp_grammar.specs.declared.part.Part.{Part}
use Rattle.std.specs.Prelude.{◌≡◌}
use Rattle.tptp_grammar.specs.Readings.{Tally, Reading, Verdict, Refused}
use Rattle.tptp_grammar.specs.declared.machine.StepError.{StepError}
use Rattle.tptp_grammar.specs.declared.machine.StepError.TheVariants as errors
use Rattle.tptp_grammar.specs.Views.{state_of}
use Rattle.tptp_grammar.specs.declared.machine.Machine.{Machine}

abbrev pub tally_of : Machine → Tally
tally_of m = record { formulas = m.formulas; literals = m.literals; variables = map (λ text. text.now) m.variables.keys }

abbrev pub reading : Machine → Reading
reading m = record { state = state_of m.place; tally = tally_of m }

abbrev pub counted_part_if : Bool → Part → Tally → Tally
counted_part_if true part tally = record { formulas = suc tally.formulas; literals = 0; variables = [] }
counted_part_if false part tally = record { formulas = tally.formulas; literals = open_if (begins_literal part) + tally.literals; variables = tally.variables }

-- a token of this part is counted, but for its variable
abbrev pub counted_part : Part → Tally → Tally
counted_part part tally = counted_part_if (begins_formula part) part tally

-- the error tells what the verdict is
abbrev pub TellsVerdict : Verdict → StepError → Type 0
TellsVerdict verdict (errors.Refused refusal) = verdict ≡ Refused refusal
TellsVerdict verdict errors.Memory = Unit {0}
