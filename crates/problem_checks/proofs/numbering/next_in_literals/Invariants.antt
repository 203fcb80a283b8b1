use Rattle.std.proofs.Common.{◌≡◌, drop}
use Rattle.problem_checks.specs.ValidityTests.{numbered_on}
use Rattle.problem_checks.specs.PlainTests.{literals_numbers}
use Rattle.problem_checks.proofs.numbering.next_in_literals.Given as goal

-- What is left decides.
abbrev pub invariant-loop-literal : goal.invariant-loop-literal
invariant-loop-literal l = numbered_on l.next (literals_numbers l.counted l.literals) ≡ numbered_on l.number (literals_numbers l.counted (drop l.literal-index l.literals))
