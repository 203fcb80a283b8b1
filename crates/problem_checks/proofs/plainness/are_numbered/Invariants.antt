use Rattle.std.proofs.Common.{◌≡◌, ◌+◌, drop}
use Rattle.problem_checks.specs.PlainTests.{are_numbered}
use Rattle.problem_checks.proofs.plainness.are_numbered.Given as goal

-- What is left decides.
abbrev pub invariant-loop-clause : goal.invariant-loop-clause
invariant-loop-clause l = (l.number ≡ l.clause-index + 1) × (are_numbered 1 l.clauses ≡ are_numbered l.number (drop l.clause-index l.clauses))
