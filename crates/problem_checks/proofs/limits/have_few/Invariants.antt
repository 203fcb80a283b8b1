use Rattle.std.proofs.Common.{◌≡◌, drop}
use Rattle.std.specs.List.{list_all}
use Rattle.problem_checks.specs.PlainTests.{has_few_arguments}
use Rattle.problem_checks.specs.SymbolKinds.{symbols_of}
use Rattle.problem_checks.proofs.OwnNumbers.{HaveOwnBelow}
use Rattle.problem_checks.proofs.limits.have_few.Given as goal

-- What is left decides.
abbrev pub invariant-symbols : goal.invariant-symbols
invariant-symbols l = record {
  few : list_all has_few_arguments (symbols_of l.kind l.signature) ≡ list_all has_few_arguments (drop l.number (symbols_of l.kind l.signature));
  own : HaveOwnBelow (symbols_of l.kind l.signature) l.number;
}
