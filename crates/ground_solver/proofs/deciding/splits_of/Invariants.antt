use Rattle.std.proofs.Common.{◌≡◌, map, take}
use Rattle.ground_solver.specs.Named.{named_node}
use Rattle.ground_solver.proofs.deciding.splits_of.Given as goal

abbrev pub invariant-loop-step : goal.invariant-loop-step
invariant-loop-step l = l.splits.items ≡ map (named_node l.atoms) (take l.step-index l.steps)
