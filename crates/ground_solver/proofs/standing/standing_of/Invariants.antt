use Rattle.ground_solver.proofs.Scanning.{IsSeen}
use Rattle.ground_solver.proofs.standing.standing_of.Given as goal

abbrev pub invariant-loop-k : goal.invariant-loop-k
invariant-loop-k l = IsSeen l.values l.clause l.first l.more l.k
