use Rattle.std.proofs.Common.{◌≡◌, ◌++◌, drop}
use Rattle.cnf_writer.specs.ProblemText.{clause_lines}
use Rattle.cnf_writer.proofs.problem.push_lines.Given as goal

-- What is written and what is left give the whole.
abbrev pub invariant-loop-clause : goal.invariant-loop-clause
invariant-loop-clause l =
    l.out.items ++ clause_lines l.signature (drop l.clause-index l.clauses) ≡ l.fn.out.items ++ clause_lines l.signature l.clauses
