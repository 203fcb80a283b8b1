use Rattle.std.proofs.Common.{◌≡◌, drop}
use Rattle.problem_checks.specs.ValidityTests.{numbered_on}
use Rattle.tptp_cnf.specs.Plain.{clauses_functions}
use Rattle.problem_checks.proofs.numbering.function_count.Given as goal

-- What is left decides.
abbrev pub invariant-loop-clause : goal.invariant-loop-clause
invariant-loop-clause l = numbered_on 0 (clauses_functions l.clauses) ≡ numbered_on l.number (clauses_functions (drop l.clause-index l.clauses))
