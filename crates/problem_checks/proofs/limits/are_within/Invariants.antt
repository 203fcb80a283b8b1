use Rattle.std.proofs.Common.{◌≡◌, drop}
use Rattle.std.specs.List.{list_all}
use Rattle.problem_checks.specs.PlainTests.{is_within}
use Rattle.problem_checks.proofs.limits.are_within.Given as goal

-- What is left decides.
abbrev pub invariant-loop-clause : goal.invariant-loop-clause
invariant-loop-clause l = list_all is_within l.clauses ≡ list_all is_within (drop l.clause-index l.clauses)
