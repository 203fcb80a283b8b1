use Rattle.ground_solver.specs.Underway.{IsUnderway, work}
use Rattle.ground_solver.proofs.solving.solve.Given as goal

abbrev pub invariant-turns : goal.invariant-turns
invariant-turns l = IsUnderway l.clauses l.atoms l.search

abbrev pub decreases-turns : goal.decreases-turns
decreases-turns l = work l.search.values.items l.search.trail.items
