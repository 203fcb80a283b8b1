-- Laws of equations.
use Rattle.std.specs.Prelude.{List}
use Rattle.me_terms.specs.Substitutions.{Family}
use Rattle.me_unify.specs.Equations.{Equation, IsSolvable, IsMostGeneral}

-- Equations that have a solution have a most general unifier.
abbrev pub SolvableHaveMostGeneral : Type 0
SolvableHaveMostGeneral = (equations : List Equation) → IsSolvable equations → (u : Family) × IsMostGeneral equations u
