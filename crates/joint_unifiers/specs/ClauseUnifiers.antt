-- Unifiers of a clause's literals with entries of a context, as contracts see them.
use Rattle.std.specs.Prelude.{◌≡◌, ℕ, ◌<◌, ◌↔◌, List, length, Option, Some, None, ⊤}
use Rattle.me_terms.specs.Substitutions.{Family}
use Rattle.me_terms.specs.Context.{Context}
use Rattle.me_terms.specs.Positions.{positions_of}
use Rattle.me_terms.specs.Unifier.{IsUnifier}
use Rattle.me_terms.specs.Remainder.{remainder}
use Rattle.me_terms.specs.declared.atom.Literal.{Literal}
use Rattle.me_unify.specs.Equations.{Equation, IsMostGeneral}

-- A unifier of a clause's literals with entries of a context: the clause's literals in order, the positions of the entries, the equations between each entry's atom with the variables of its place's space and its literal's atom with those of space 0, and the places of the remainder, rising.
pub record UnifierValue : Type 0 where
  pub literals : List Literal
  pub tuple : List ℕ
  pub equations : List Equation
  pub remainder : List ℕ

-- It is of this clause and these positions, with that place skipped: what is most general for its equations is exactly a unifier of them, and its remainder is that of each.
pub record IsUnifierOf (context : Context) (clause : List Literal) (skip : Option ℕ) (positions : List ℕ) (u : UnifierValue) : Type 0 where
  pub literals : u.literals ≡ clause
  pub tuple : u.tuple ≡ positions
  pub families : (f : Family) → IsMostGeneral u.equations f ↔ IsUnifier context clause (positions_of skip positions) f
  pub remainder : (f : Family) → IsUnifier context clause (positions_of skip positions) f → u.remainder ≡ remainder context (positions_of skip positions) f

-- The skipped place, where there is one, is one of the clause.
abbrev pub IsSkip : Option ℕ → List Literal → Type 0
IsSkip None literals = ⊤
IsSkip (Some place) literals = place < length literals
