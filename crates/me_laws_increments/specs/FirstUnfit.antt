-- Where there is neither Close nor Split, nothing that remains fits, and the first productive unifier meets a bound.
use Rattle.std.specs.Prelude.{◌≡◌, ℕ, ◌↔◌, List, ◌∷◌, slice_get, Some, None}
use Rattle.std.specs.List.{Contains}
use Rattle.me_terms.specs.Substitutions.{Family}
use Rattle.me_terms.specs.Measures.{canonical_literal}
use Rattle.me_terms.specs.Values.{ProblemValue, ClauseValue}
use Rattle.me_terms.specs.Context.{Context}
use Rattle.me_terms.specs.Positions.{positions_of}
use Rattle.me_terms.specs.Unifier.{unified}
use Rattle.me_terms.specs.Remainder.{remainder}
use Rattle.me_terms.specs.Productive.{IsProductiveUnifier}
use Rattle.me_terms.specs.Close.{HasClose}
use Rattle.me_terms.specs.Assert.{HasAssert}
use Rattle.me_terms.specs.Split.{HasSplit}
use Rattle.me_terms.specs.Fits.{Fits}
use Rattle.me_terms.specs.Next.{Bounded, IsFirstRemaining, IsBeyond, IsNext}
use Rattle.me_terms.specs.Order.{Precedes, clause_key}
use Rattle.me_terms.specs.declared.bounds.Bound.{Bound}
use Rattle.me_terms.specs.declared.bounds.Bounds.{Bounds}
use Rattle.me_terms.specs.declared.atom.Literal.{Literal}

-- No productive unifier comes before one of this clause and tuple.
abbrev pub IsLeastProductive : ProblemValue → Context → ℕ → List ℕ → Type 0
IsLeastProductive problem context c tuple =
    (c' : ℕ) (tuple' : List ℕ) (clause' : ClauseValue) (family' : Family) → IsProductiveUnifier problem context c' tuple' clause' family' → Precedes (clause_key c tuple) (clause_key c' tuple')

-- A first place remains, and a literal stands there.
pub record HasFirstPlace (context : Context) (tuple : List ℕ) (clause : ClauseValue) (family : Family) : Type 0 where
  pub place : ℕ
  pub others : List ℕ
  pub literal : Literal
  pub first_place : remainder context (positions_of None tuple) family ≡ place ∷ others
  pub literal_at : slice_get clause.literals place ≡ Some literal

-- A literal fits exactly where its canonical form does.
abbrev pub FitsAsCanonical : Type 0
FitsAsCanonical = (bounds : Bounds) (l : Literal) → Fits bounds l ↔ Fits bounds (canonical_literal l)

-- Without a Close a place of each productive unifier remains.
abbrev pub PlacesRemain : Type 0
PlacesRemain = (problem : ProblemValue) (context : Context) (c : ℕ) (tuple : List ℕ) (clause : ClauseValue) (family : Family) → ¬ HasClose problem context → IsProductiveUnifier problem context c tuple clause family → HasFirstPlace context tuple clause family

-- Without a Split no literal of a remainder fits.
abbrev pub RemainingIsUnfit : Type 0
RemainingIsUnfit = (problem : ProblemValue) (bounds : Bounds) (context : Context) (c : ℕ) (tuple : List ℕ) (clause : ClauseValue) (family : Family) (place : ℕ) (literal : Literal) → ¬ HasSplit problem bounds context → IsProductiveUnifier problem context c tuple clause family → Contains (remainder context (positions_of None tuple) family) place → slice_get clause.literals place ≡ Some literal → ¬ Fits bounds (unified family literal)

-- The literal at the first remainder place of the least productive unifier is the one that the bound is told of.
abbrev pub LeastIsFirstRemaining : Type 0
LeastIsFirstRemaining = (problem : ProblemValue) (context : Context) (c : ℕ) (tuple : List ℕ) (clause : ClauseValue) (family : Family) → IsProductiveUnifier problem context c tuple clause family → IsLeastProductive problem context c tuple → (h : HasFirstPlace context tuple clause family) → IsFirstRemaining problem context (unified family h.literal)

-- Where there is neither Close, Assert nor Split, the next step is the bound that the first remainder literal is beyond, depth or else weight.
abbrev pub FirstRemainingIsBounded : Type 0
FirstRemainingIsBounded = (problem : ProblemValue) (bounds : Bounds) (context : Context) (l : Literal) → ¬ HasClose problem context → ¬ HasAssert problem bounds context → ¬ HasSplit problem bounds context → IsFirstRemaining problem context l → (b : Bound) × IsBeyond b bounds l × IsNext problem bounds context (Bounded b)
