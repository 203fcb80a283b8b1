-- Searches for the least Assert.
use Rattle.std.specs.Prelude.{◌≡◌, ℕ, ◌-◌, ◌<◌, min, List, [], ◌∷◌, Option, Some, None}
use Rattle.me_terms.specs.Values.{ProblemValue, EntryValue}
use Rattle.me_terms.specs.Context.{Context}
use Rattle.me_terms.specs.Assert.{IsAssert}
use Rattle.me_terms.specs.Order.{kind_rank, pattern_weight, assert_key}
use Rattle.me_terms.specs.declared.bounds.Bounds.{Bounds}
use Rattle.me_terms.specs.declared.entry.Kind.{Kind}
use Rattle.me_terms.specs.declared.entry.Kind.TheVariants.{Universal, Parametric}
use Rattle.tuple_search.specs.declared.limits.Limits.{Limits}
use Rattle.tuple_search.specs.Enumeration.{IsLater}
use Rattle.next_rule.specs.Best.{Updates}

-- An Assert: the clause, the place in it, the tuple, and the entry.
pub record AssertCandidate (problem : ProblemValue) (bounds : Bounds) (context : Context) : Type 0 where
  pub clause : ℕ
  pub place : ℕ
  pub tuple : List ℕ
  pub entry : EntryValue
  pub holds : IsAssert problem bounds context clause place tuple entry

-- By kind, then weight.
abbrev pub assert_rank : EntryValue → List ℕ
assert_rank e = kind_rank e.kind ∷ pattern_weight e.atom ∷ []

-- Of what comes before an entry of a kind and weight, the most that it may weigh, where nothing may weigh more than a bound: less than a Universal entry. Before a Parametric one a Universal one comes that may be heavier.
abbrev pub weight_before : ℕ → Kind → ℕ → ℕ
weight_before most Universal weight = min most (weight - 1)
weight_before most Parametric weight = most

-- The most that what comes before the best entry so far may weigh; where there is none, the bound.
abbrev pub weight_limit : Bounds → Option EntryValue → ℕ
weight_limit bounds None = bounds.weight
weight_limit bounds (Some best) = weight_before bounds.weight best.kind (pattern_weight best.atom)

-- The limits of the unifiers whose Asserts may come before the best entry so far: nothing remains, and the literal is light enough.
abbrev pub assert_limits : Bounds → Option EntryValue → Limits
assert_limits bounds best = record { remaining = Some 0; weight = Some (weight_limit bounds best); pivot = None }

-- Some of the places of clauses and their tuples.
abbrev pub AssertRegion : Type 1
AssertRegion = ℕ → ℕ → List ℕ → Type 0

-- one tuple of a place
abbrev pub AssertTuple : ℕ → ℕ → List ℕ → AssertRegion
AssertTuple c place tuple c' place' tuple' = (c' ≡ c) × (place' ≡ place) × (tuple' ≡ tuple)

-- of a place, the tuples that do not come after a given one
abbrev pub AssertsPassed : ℕ → ℕ → Option (List ℕ) → AssertRegion
AssertsPassed c place at c' place' tuple' = (c' ≡ c) × (place' ≡ place) × ¬ IsLater at tuple'

-- all tuples of a place
abbrev pub AssertPlace : ℕ → ℕ → AssertRegion
AssertPlace c place c' place' tuple' = (c' ≡ c) × (place' ≡ place)

-- the first so many places of a clause
abbrev pub AssertPlaces : ℕ → ℕ → AssertRegion
AssertPlaces c places c' place' tuple' = (c' ≡ c) × (place' < places)

-- all places of a clause
abbrev pub AssertClause : ℕ → AssertRegion
AssertClause c c' place' tuple' = c' ≡ c

-- the first so many clauses
abbrev pub AssertClauses : ℕ → AssertRegion
AssertClauses clauses c' place' tuple' = c' < clauses

-- The entry of the least Assert of the region takes the place of the best entry so far, where its kind and weight come before.
abbrev pub TakesAsserts : ProblemValue → Bounds → Context → AssertRegion → Option EntryValue → Option EntryValue → Type 0
TakesAsserts problem bounds context region best better =
    Updates {C = AssertCandidate problem bounds context} (λ x. x.entry) assert_rank (λ x. assert_key x.clause x.place x.tuple x.entry) (λ x. region x.clause x.place x.tuple) best better
