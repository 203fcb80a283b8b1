use Rattle.std.proofs.Common.{◌-◌}
use Rattle.darwin_solve.specs.Deepened.{ComesTo}
use Rattle.darwin_solve.proofs.deepening.deepen_pool.Given as goal

abbrev pub invariant-deepen : goal.invariant-deepen
invariant-deepen g l = ComesTo l.problem l.bounds l.from l.depth

abbrev pub decreases-deepen : goal.decreases-deepen
decreases-deepen g l = l.bounds.depth - l.depth
