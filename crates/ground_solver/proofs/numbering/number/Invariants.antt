use Rattle.std.proofs.Common.{◌≡◌, ◌≤◌, length, take}
use Rattle.ground_solver.specs.Assignments.{atoms_of, clauses_of}
use Rattle.ground_solver.specs.Named.{NameAll, literal_count}
use Rattle.ground_solver.proofs.numbering.number.Given as goal

abbrev pub invariant-loop-literals : goal.invariant-loop-literals
invariant-loop-literals l = record {
  atoms : l.atoms.keys ≡ atoms_of (take l.literals-index (clauses_of l.list.items));
  names : NameAll l.atoms.keys l.clauses.items (take l.literals-index (clauses_of l.list.items));
  few : length l.atoms.keys ≤ literal_count (take l.literals-index (clauses_of l.list.items));
}
