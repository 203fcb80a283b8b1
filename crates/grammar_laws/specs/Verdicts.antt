-- The machine's verdicts and the grammar's.
use Rattle.std.specs.Prelude.{◌≡◌, ◌↔◌, List}
use Rattle.tptp_grammar.specs.Terminals.{Terminal}
use Rattle.tptp_grammar.specs.Written.{WrittenFormula}
use Rattle.tptp_grammar.specs.Files.{IsFileWithinLimits}
use Rattle.tptp_grammar.specs.Refusals.{IsUnrefused, IsRefusalOf, IsCutShort}
use Rattle.tptp_grammar.specs.Machine.{Between}
use Rattle.tptp_grammar.specs.Readings.{Reading, start_reading, GoesOn, Refused, verdict, on_from}
use Rattle.tptp_grammar.specs.declared.refusal.Refusal.{Refusal}

-- From its start, the machine goes on with these tokens, and has read and counted this behind them.
abbrev pub HasRead : List Terminal → Reading → Type 0
HasRead tokens reading = on_from (GoesOn start_reading) tokens ≡ GoesOn reading

-- The tokens are a file within the limits.
abbrev pub IsSomeFile : List Terminal → Type 0
IsSomeFile tokens = (file : List WrittenFormula) × IsFileWithinLimits tokens file

-- The machine goes on with tokens exactly where they begin a file and none of them passes a limit.
abbrev pub GoesOnWhileUnrefused : Type 0
GoesOnWhileUnrefused = (tokens : List Terminal) → ((reading : Reading) × HasRead tokens reading) ↔ IsUnrefused tokens

-- Behind such tokens it refuses a token exactly where it is the first refused one, for the same cause.
abbrev pub RefusesByGrammar : Type 0
RefusesByGrammar =
    (tokens : List Terminal) (reading : Reading) (token : Terminal) (refusal : Refusal) → HasRead tokens reading
    → (verdict reading token ≡ Refused refusal) ↔ IsRefusalOf refusal tokens token

-- It stands between two formulas exactly where the tokens are a file.
abbrev pub EndsBetweenFormulas : Type 0
EndsBetweenFormulas = (tokens : List Terminal) (reading : Reading) → HasRead tokens reading → (reading.state ≡ Between) ↔ IsSomeFile tokens

-- It stands elsewhere exactly where the tokens end too early.
abbrev pub CutShortElsewhere : Type 0
CutShortElsewhere = (tokens : List Terminal) (reading : Reading) → HasRead tokens reading → (¬ (reading.state ≡ Between)) ↔ IsCutShort tokens
