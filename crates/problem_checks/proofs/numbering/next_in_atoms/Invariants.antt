use Rattle.std.proofs.Common.{◌≡◌, drop}
use Rattle.problem_checks.specs.ValidityTests.{numbered_on}
use Rattle.problem_checks.specs.PlainTests.{predicate_numbers}
use Rattle.problem_checks.proofs.numbering.next_in_atoms.Given as goal

-- What is left decides.
abbrev pub invariant-loop-literal : goal.invariant-loop-literal
invariant-loop-literal l = numbered_on l.next (predicate_numbers l.literals) ≡ numbered_on l.number (predicate_numbers (drop l.literal-index l.literals))
