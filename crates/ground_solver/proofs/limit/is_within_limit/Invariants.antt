use Rattle.std.proofs.Common.{◌≡◌, ◌<◌, ◌-◌, ◌^◌, take}
use Rattle.ground_solver.specs.Assignments.{clauses_of}
use Rattle.ground_solver.specs.Named.{literal_count}
use Rattle.ground_solver.proofs.limit.is_within_limit.Given as goal

-- The literals of the clauses so far are counted.
abbrev pub invariant-loop-literals : goal.invariant-loop-literals
invariant-loop-literals l = record {
  counted : l.total ≡ literal_count (take l.literals-index (clauses_of l.list.items));
  within : l.total < 2 ^ 32 - 1;
}
