-- The equations by which an asserted entry's instance is found.
use Rattle.std.specs.Prelude.{ℕ, List, [], ◌∷◌, ◌++◌, Option}
use Rattle.me_terms.specs.Context.{Context}
use Rattle.me_terms.specs.declared.atom.Literal.{Literal}
use Rattle.me_unify.specs.ClauseEquations.{clause_equations}
use Rattle.me_unify.specs.Equations.{Equation, equation}

-- The equations of the places and, behind them, that of the literal at an asserted entry's own place with the literal that it is asked for at. That literal is ground, so its space does not matter.
abbrev pub asked_equations : Context → List Literal → List (Option ℕ) → Literal → Literal → List Equation
asked_equations context literals positions own asked = clause_equations context literals positions ++ equation 0 own.atom 0 asked.atom ∷ []
