-- Ground instances of a problem's clauses.
use Rattle.std.specs.Prelude.{◌≡◌, ℕ, Bool, true, false, ◌&&◌, ◌||◌, eqb, List, map, slice_get, IsTrue}
use Rattle.me_terms.specs.Terms.{TermValue, Var, App, Arguments, Nil, Cons}
use Rattle.me_terms.specs.Variables.{count}
use Rattle.me_terms.specs.Substitutions.{Substitution, apply_literal}
use Rattle.me_terms.specs.Signatures.{takes}
use Rattle.me_terms.specs.Values.{ProblemValue, ClauseValue}
use Rattle.me_terms.specs.Positions.{ClauseAt}
use Rattle.me_terms.specs.declared.atom.Literal.{Literal}

-- A term without variables over the functions of the signature, and c0.
abbrev mutual
  pub is_ground_term : ProblemValue → TermValue → Bool
  is_ground_term problem (Var x) = false
  is_ground_term problem (App f ts) =
      (takes (slice_get problem.signature.functions f) (count ts) || (eqb f problem.c0 && eqb (count ts) 0))
      && are_ground_terms problem ts

  pub are_ground_terms : ProblemValue → Arguments → Bool
  are_ground_terms problem Nil = true
  are_ground_terms problem (Cons t ts) = is_ground_term problem t && are_ground_terms problem ts

-- The literals are those of clause c, with ground terms for all its variables.
abbrev pub IsGroundInstance : ProblemValue → ℕ → List Literal → Type 0
IsGroundInstance problem c literals =
    (clause : ClauseValue) × (s : Substitution) × ClauseAt problem c clause
    × ((x : ℕ) → IsTrue (is_ground_term problem (s x)))
    × (literals ≡ map (apply_literal s) clause.literals)
