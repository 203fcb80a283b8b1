use Rattle.std.proofs.Common.{◌≡◌, ◌++◌}
use Rattle.me_terms.specs.Positions.{positions_of}
use Rattle.me_terms.specs.Substitutions.{Family}
use Rattle.me_terms.specs.Remainder.{remainder}
use Rattle.me_unify.specs.Equations.{IsMostGeneral}
use Rattle.joint_unifiers.proofs.Remaining.{left_places}
use Rattle.joint_unifiers.proofs.remainder.remaining.Given as goal

-- The places so far are all but what is left.
abbrev pub invariant-loop-place : goal.invariant-loop-place
invariant-loop-place g l =
    let context = g.V.View.context l.view in
    let positions = positions_of l.skip l.tuple.items in
    (u : Family) → IsMostGeneral l.bindings u → remainder context positions u ≡ l.places.items ++ left_places l.place context positions u
