use Rattle.std.proofs.Common.{◌≡◌, drop}
use Rattle.std.specs.List.{list_all}
use Rattle.problem_checks.specs.PlainTests.{is_shallow}
use Rattle.problem_checks.proofs.limits.are_shallow.Given as goal

-- What is left decides.
abbrev pub invariant-loop-literal : goal.invariant-loop-literal
invariant-loop-literal l = list_all is_shallow l.literals ≡ list_all is_shallow (drop l.literal-index l.literals)
