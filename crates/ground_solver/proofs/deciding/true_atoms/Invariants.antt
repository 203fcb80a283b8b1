use Rattle.std.proofs.Common.{◌≡◌, take}
use Rattle.std.specs.List.{filter}
use Rattle.ground_solver.specs.Named.{valuation}
use Rattle.ground_solver.proofs.deciding.true_atoms.Given as goal

abbrev pub invariant-loop-k : goal.invariant-loop-k
invariant-loop-k l = l.trues.items ≡ filter (valuation l.atoms l.values) (take l.k l.atoms)
