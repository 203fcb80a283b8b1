use Rattle.std.proofs.Common.{take}
use Rattle.me_terms.specs.Substitutions.{Family}
use Rattle.me_unify.specs.Equations.{IsMostGeneral}
use Rattle.split_rule.specs.SplitChoices.{IsChosen}
use Rattle.split_rule.proofs.split.split_of.Given as goal

-- The choice is the first one of the places so far.
abbrev pub invariant-loop-place : goal.invariant-loop-place
invariant-loop-place l =
    (f : Family) → IsMostGeneral l.u.equations f → IsChosen l.u.literals (take l.place-index l.places) l.bounds f l.chosen
