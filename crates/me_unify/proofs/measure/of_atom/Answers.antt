use Rattle.std.proofs.Common.{arith}
use Rattle.me_unify.proofs.measure.of_atom.Goals as goal

pub returns : goal.returns
returns c a q = record { weight = omega (arith, c.saturating_add.ensures, q.weight); depth = q.depth; ground = q.ground }
