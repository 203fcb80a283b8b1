-- Which tokens are a file of the grammar within its limits, and which begin one.
use Rattle.std.specs.Prelude.{◌≡◌, false, List, ◌∷◌, ◌++◌}
use Rattle.tptp_grammar.specs.Terminals.{Terminal}
use Rattle.tptp_grammar.specs.Written.{WrittenFormula}
use Rattle.tptp_grammar.specs.Printed.{Printed, printed, printed_terminals}
use Rattle.tptp_grammar.specs.Limits.{passes}
use Rattle.tptp_grammar.specs.declared.refusal.Which.{Which}

-- the tokens are a file of the grammar: this one, whatever its size
abbrev pub IsWritten : List Terminal → List WrittenFormula → Type 0
IsWritten tokens file = tokens ≡ printed_terminals (printed file)

-- the tokens begin a file of the grammar: some others behind them make one
abbrev pub BeginsFile : List Terminal → Type 0
BeginsFile tokens = (others : List Terminal) × (file : List WrittenFormula) × IsWritten (tokens ++ others) file

-- no token passes a limit
abbrev pub PassesNoLimit : List Printed → Type 0
PassesNoLimit tokens = (before after : List Printed) (p : Printed) (which : Which) → tokens ≡ before ++ p ∷ after → passes which before p ≡ false

-- The tokens are this file, and the limits hold.
pub record IsFileWithinLimits (tokens : List Terminal) (file : List WrittenFormula) : Type 0 where
  pub written : IsWritten tokens file
  pub within : PassesNoLimit (printed file)

-- These are the first tokens of a file, each with what it begins there, and those in after come behind them.
pub record IsFileFront (tokens : List Terminal) (front after : List Printed) : Type 0 where
  pub file : List WrittenFormula
  pub parts : printed file ≡ front ++ after
  pub same : tokens ≡ printed_terminals front
