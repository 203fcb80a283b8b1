-- Which candidates are none yet where an entry comes, so that those found later are new.
use Rattle.std.specs.Prelude.{◌≡◌, ℕ, ◌<◌, ◌⊎◌, List, ◌++◌, length}
use Rattle.me_terms.specs.Values.{ProblemValue, EntryValue, SplitLeft, SplitRight}
use Rattle.me_terms.specs.Context.{Context, add}
use Rattle.me_terms.specs.Close.{IsClose, HasClose}
use Rattle.me_terms.specs.Assert.{IsAssert, HasAssert}
use Rattle.me_terms.specs.Next.{NextValue, Close, IsNext}
use Rattle.me_terms.specs.Order.{Precedes, clause_key, IsLeastClose}
use Rattle.me_terms.specs.Grown.{IsGrown}
use Rattle.me_terms.specs.declared.bounds.Bounds.{Bounds}
use Rattle.me_laws_increments.specs.Pivots.{HasLaterPivot}

-- Where the next step is no Close there is none.
abbrev pub NoCloseUnlessNext : Type 0
NoCloseUnlessNext = (problem : ProblemValue) (bounds : Bounds) (context : Context) (step : NextValue) → IsNext problem bounds context step → ((c : ℕ) (tuple : List ℕ) → ¬ (step ≡ Close c tuple)) → ¬ HasClose problem context

-- Before each entry of a grown context, but the first, there was no Close.
abbrev pub NoCloseBefore : Type 0
NoCloseBefore = (problem : ProblemValue) (bounds : Bounds) (context : Context) (new : EntryValue) → 0 < length context → IsGrown problem bounds (add context new) → ¬ HasClose problem context

-- Before each entry that a Split added there was no Assert.
abbrev pub NoAssertBeforeSplit : Type 0
NoAssertBeforeSplit = (problem : ProblemValue) (bounds : Bounds) (context : Context) (new : EntryValue) → IsGrown problem bounds (add context new) → (new.reason ≡ SplitLeft) ⊎ (new.reason ≡ SplitRight) → ¬ HasAssert problem bounds context

-- Where there was no Close, the pivot of each later one is a later entry.
abbrev pub LaterClosesAreNew : Type 0
LaterClosesAreNew = (problem : ProblemValue) (context more : Context) (c : ℕ) (tuple : List ℕ) → ¬ HasClose problem context → IsClose problem (context ++ more) c tuple → HasLaterPivot context (context ++ more) tuple

-- Where there was no Assert, the pivot of each later one is a later entry. So all that are found from one Split to the next are new.
abbrev pub LaterAssertsAreNew : Type 0
LaterAssertsAreNew = (problem : ProblemValue) (bounds : Bounds) (context more : Context) (c place : ℕ) (tuple : List ℕ) (e : EntryValue) → ¬ HasAssert problem bounds context → IsAssert problem bounds (context ++ more) c place tuple e → HasLaterPivot context (context ++ more) tuple

-- Where there was no Close, the least of those with a later pivot is the least of all.
abbrev pub LeastNewCloseIsLeast : Type 0
LeastNewCloseIsLeast = (problem : ProblemValue) (context more : Context) (c : ℕ) (tuple : List ℕ) → ¬ HasClose problem context → IsClose problem (context ++ more) c tuple → ((c' : ℕ) (tuple' : List ℕ) → HasLaterPivot context (context ++ more) tuple' → IsClose problem (context ++ more) c' tuple' → Precedes (clause_key c tuple) (clause_key c' tuple')) → IsLeastClose problem (context ++ more) c tuple

-- Where there was no Close, and none has a later pivot, there is none.
abbrev pub NoNewClose : Type 0
NoNewClose = (problem : ProblemValue) (context more : Context) → ¬ HasClose problem context → ((c : ℕ) (tuple : List ℕ) → HasLaterPivot context (context ++ more) tuple → ¬ IsClose problem (context ++ more) c tuple) → ¬ HasClose problem (context ++ more)
