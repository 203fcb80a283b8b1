use Rattle.std.proofs.Common.{◌≡◌, ◌+◌, ◌≤◌, length, take}
use Rattle.std.specs.List.{AllZip}
use Rattle.ground_solver.specs.Assignments.{with_atoms}
use Rattle.ground_solver.specs.Named.{Names}
use Rattle.ground_solver.proofs.numbering.number_clause.Given as goal

abbrev pub invariant-loop-literal : goal.invariant-loop-literal
invariant-loop-literal l = record {
  atoms : l.atoms.keys ≡ with_atoms l.fn.atoms.keys (take l.literal-index l.literals);
  names : AllZip (Names l.atoms.keys) l.clause.items (take l.literal-index l.literals);
  few : length l.atoms.keys ≤ length l.fn.atoms.keys + l.literal-index;
}
