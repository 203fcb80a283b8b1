-- Names, formulas and errors of the program as contracts see them.
use Rattle.std.specs.Prelude.{◌≡◌, ◌≢◌, ℕ, List, map, Option, Some, None}
use Rattle.me_terms.specs.Sequences.{SequenceValue}
use Rattle.tptp_cnf.specs.declared.error.CnfError.{CnfError}
use Rattle.tptp_cnf.specs.declared.error.CnfError.TheVariants as cnf
use Rattle.me_terms.specs.Values.{LabelValue}
use Rattle.tptp_lines.specs.LineCauses.{IsLinesCause}
use Rattle.tptp_include.specs.Files.{FileValue}
use Rattle.tptp_include.specs.Flat.{FlatValue}
use Rattle.tptp_include.specs.Outcomes.{Stop, Stops, IsOutcome, unnamed_in}
use Rattle.tptp_include.specs.Outcomes as pure
use Rattle.tptp_include.specs.declared.error.FlatError.{FlatError}
use Rattle.tptp_include.specs.declared.error.FlatError.TheVariants.{File, Missing, Cycle, Unnamed, Limit, Fault, Memory}

abbrev pub names_of : SequenceValue (SequenceValue ℕ) → List (List ℕ)
names_of names = map (λ name. name.items) names.items

-- The error tells this cause. A fault and want of memory tell none.
abbrev pub TellsStop : (Stop → Type 0) → FlatError → Type 0
TellsStop P (File name error) = P (pure.File name.items error)
TellsStop P (Missing chain) = P (pure.Missing (names_of chain))
TellsStop P (Cycle chain) = P (pure.Cycle (names_of chain))
TellsStop P (Unnamed file label) = P (pure.Unnamed file.items label)
TellsStop P (Limit which) = P (pure.Limit which)
TellsStop P Fault = Unit {0}
TellsStop P Memory = Unit {0}

-- the error is the cause for which the main file has no flat form
abbrev pub IsStopOf : List FileValue → List ℕ → FlatError → Type 0
IsStopOf files main e = TellsStop (λ why. IsOutcome files main (Stops why)) e

abbrev pub bytes_of : Option (SequenceValue ℕ) → Option (List ℕ)
bytes_of None = None
bytes_of (Some bytes) = Some bytes.items

-- the stop of a file of this name whose bytes are refused
abbrev pub IsFileStop : List ℕ → List ℕ → Stop → Type 0
IsFileStop name bytes why = (e : CnfError) × (e ≢ cnf.Memory) × IsLinesCause bytes e × (why ≡ pure.File name e)

-- the stop of a file of this name whose formulas lack a label that is picked
abbrev pub IsUnnamedStop : List ℕ → Option (List LabelValue) → List FlatValue → Stop → Type 0
IsUnnamedStop file picks whole why = (label : LabelValue) × (unnamed_in picks whole ≡ Some label) × (why ≡ pure.Unnamed file label)
