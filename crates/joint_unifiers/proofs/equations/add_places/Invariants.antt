use Rattle.std.proofs.Common.{◌≡◌, ◌++◌}
use Rattle.me_terms.specs.Positions.{positions_of}
use Rattle.me_unify.specs.Equations.{IsSolvable}
use Rattle.me_unify.specs.ClauseEquations.{clause_equations}
use Rattle.joint_unifiers.proofs.Adding.{left_from}
use Rattle.joint_unifiers.proofs.equations.add_places.Given as goal

-- What is added has a solution, and is all but what is left.
abbrev pub invariant-loop-place : goal.invariant-loop-place
invariant-loop-place g l =
    let context = g.V.View.context l.view in
    let positions = positions_of l.skip l.tuple.items in record {
      solvable : IsSolvable l.bindings;
      left : clause_equations context l.literals positions ≡ l.bindings ++ left_from l.place context l.literals positions;
    }
