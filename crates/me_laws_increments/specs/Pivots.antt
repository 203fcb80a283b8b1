-- The pivot of a tuple: its greatest position, at the first place that has it. Each candidate that a context has beyond an earlier one has a later entry as its pivot.
use Rattle.std.specs.Prelude.{◌≡◌, ℕ, ◌<◌, ◌≤◌, ◌⊎◌, ◌↔◌, List, ◌∷◌, ◌++◌, length, slice_get, Option, Some}
use Rattle.std.specs.List.{Contains}
use Rattle.me_terms.specs.Substitutions.{Family}
use Rattle.me_terms.specs.Values.{ProblemValue, ClauseValue, EntryValue}
use Rattle.me_terms.specs.Context.{Context, add}
use Rattle.me_terms.specs.Positions.{positions_of, AreOpposite}
use Rattle.me_terms.specs.Productive.{IsProductiveUnifier}
use Rattle.me_terms.specs.Close.{IsClose}
use Rattle.me_terms.specs.Assert.{IsAssert}
use Rattle.me_terms.specs.Split.{IsSplit}
use Rattle.me_terms.specs.declared.bounds.Bounds.{Bounds}
use Rattle.me_terms.specs.declared.atom.Literal.{Literal}
use Rattle.me_laws_increments.specs.Tuples.{IsWithin}

-- The position p stands at place i, smaller ones before it, and none that is greater.
pub record IsPivot (tuple : List ℕ) (p i : ℕ) : Type 0 where
  pub at : slice_get tuple i ≡ Some p
  pub before : (j k : ℕ) → j < i → slice_get tuple j ≡ Some k → k < p
  pub greatest : (j k : ℕ) → slice_get tuple j ≡ Some k → k ≤ p

-- The tuple's pivot is a position of the longer context, and none of the shorter one.
abbrev pub HasLaterPivot : Context → Context → List ℕ → Type 0
HasLaterPivot shorter longer tuple = (p i : ℕ) × IsPivot tuple p i × (length shorter ≤ p) × (p < length longer)

-- Each tuple but the empty one has a pivot.
abbrev pub PivotExists : Type 0
PivotExists = (k : ℕ) (ks : List ℕ) → (p i : ℕ) × IsPivot (k ∷ ks) p i

-- A tuple has no more than one pivot, at one place.
abbrev pub PivotIsOnly : Type 0
PivotIsOnly = (tuple : List ℕ) (p q i j : ℕ) → IsPivot tuple p i → IsPivot tuple q j → (p ≡ q) × (i ≡ j)

-- A tuple is within a context exactly where its pivot is a position of it.
abbrev pub WithinByPivot : Type 0
WithinByPivot = (context : Context) (tuple : List ℕ) (p i : ℕ) → IsPivot tuple p i → IsWithin context tuple ↔ (p < length context)

-- A tuple that is set against literals and uses the newest entry has that entry's position as its pivot.
abbrev pub NewestIsPivot : Type 0
NewestIsPivot = (context : Context) (new : EntryValue) (literals : List Literal) (skip : Option ℕ) (tuple : List ℕ) (p i : ℕ) → AreOpposite (add context new) literals (positions_of skip tuple) → Contains tuple (length context) → IsPivot tuple p i → p ≡ length context

-- Each Close of a context that goes on from another is one of that context, or its pivot is a later entry.
abbrev pub ClosesByPivot : Type 0
ClosesByPivot = (problem : ProblemValue) (context more : Context) (c : ℕ) (tuple : List ℕ) → IsClose problem (context ++ more) c tuple → IsClose problem context c tuple ⊎ HasLaterPivot context (context ++ more) tuple

-- Each Assert of a context that goes on from another is one of that context, or its pivot is a later entry.
abbrev pub AssertsByPivot : Type 0
AssertsByPivot = (problem : ProblemValue) (bounds : Bounds) (context more : Context) (c place : ℕ) (tuple : List ℕ) (e : EntryValue) → IsAssert problem bounds (context ++ more) c place tuple e → IsAssert problem bounds context c place tuple e ⊎ HasLaterPivot context (context ++ more) tuple

-- Each productive unifier of a context that goes on from another is one of that context, or its pivot is a later entry.
abbrev pub ProductiveUnifiersByPivot : Type 0
ProductiveUnifiersByPivot = (problem : ProblemValue) (context more : Context) (c : ℕ) (tuple : List ℕ) (clause : ClauseValue) (family : Family) → IsProductiveUnifier problem (context ++ more) c tuple clause family → IsProductiveUnifier problem context c tuple clause family ⊎ HasLaterPivot context (context ++ more) tuple

-- Each Split of a context that goes on from another is one of that context, or its pivot is a later entry.
abbrev pub SplitsByPivot : Type 0
SplitsByPivot = (problem : ProblemValue) (bounds : Bounds) (context more : Context) (c place : ℕ) (tuple : List ℕ) (size : ℕ) (l : Literal) → IsSplit problem bounds (context ++ more) c place tuple size l → IsSplit problem bounds context c place tuple size l ⊎ HasLaterPivot context (context ++ more) tuple
