use Rattle.std.proofs.Common.{◌≤◌, take}
use Rattle.ground_solver.specs.Assignments.{clauses_of}
use Rattle.ground_solver.specs.Named.{literal_count}
use Rattle.ground_solver.proofs.deciding.first_empty.Given as goal

-- Each clause so far has a literal.
abbrev pub invariant-loop-k : goal.invariant-loop-k
invariant-loop-k l = l.k ≤ literal_count (take l.k (clauses_of l.list))
