use Rattle.std.proofs.Common.{◌≡◌, drop}
use Rattle.std.specs.List.{list_all}
use Rattle.problem_checks.specs.ValidityTests.{valid_clause}
use Rattle.problem_checks.proofs.validity.are_valid.Given as goal

-- What is left decides.
abbrev pub invariant-loop-clause : goal.invariant-loop-clause
invariant-loop-clause l = list_all (valid_clause l.signature) l.clauses ≡ list_all (valid_clause l.signature) (drop l.clause-index l.clauses)
