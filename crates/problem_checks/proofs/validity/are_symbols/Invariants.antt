use Rattle.std.proofs.Common.{◌≡◌, drop}
use Rattle.std.specs.List.{list_all}
use Rattle.problem_checks.specs.SymbolKinds.{symbols_of}
use Rattle.problem_checks.specs.ValidityTests.{is_symbol}
use Rattle.problem_checks.proofs.validity.are_symbols.Given as goal

-- What is left decides.
abbrev pub invariant-symbols : goal.invariant-symbols
invariant-symbols l = list_all (is_symbol l.kind) (symbols_of l.kind l.signature) ≡ list_all (is_symbol l.kind) (drop l.number (symbols_of l.kind l.signature))
