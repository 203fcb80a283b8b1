use Rattle.std.proofs.Common.{◌≡◌, ◌++◌, drop}
use Rattle.me_unify.specs.ClauseEquations.{equations_from}
use Rattle.ground_refutation.proofs.places.bind_all.Given as goal

-- The equations so far and those that are left are all of them.
abbrev pub invariant-loop-i : goal.invariant-loop-i
invariant-loop-i g l =
    l.bindings ++ equations_from l.i (g.V.View.context l.view) (drop l.i l.literals) (drop l.i l.positions) ≡ l.fn.bindings ++ equations_from 0 (g.V.View.context l.view) l.literals l.positions
