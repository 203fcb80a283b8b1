use Rattle.std.proofs.Common.{ℕ, ◌<◌, ◌≤◌, get_or}
use Rattle.std.specs.List.{Any}
use Rattle.std.specs.declared.vec.Vec.{Vec}
use Rattle.std.specs.declared.alloc.Global.{Global}
use Rattle.ground_solver.specs.Standings.{IsTrueIn}
use Rattle.ground_solver.specs.declared.signed.Signed.{Signed}
use Rattle.ground_solver.proofs.standing.first_unsatisfied.Given as goal

-- The clauses so far have true literals.
abbrev pub invariant-loop-k : goal.invariant-loop-k
invariant-loop-k l = (j : ℕ) (d : Vec Signed Global) → l.from ≤ j → j < l.k → Any (IsTrueIn l.values) (get_or l.clauses j d).items
