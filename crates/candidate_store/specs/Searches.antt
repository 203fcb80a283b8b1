-- What a search for new candidates finds: those with a pivot.
use Rattle.std.specs.Prelude.{◌≡◌, ℕ, ◌-◌, ◌≤◌, ◌<◌, List, [], slice_get, Option, None, Some, IfSome, ◌⊎◌, ltb, if◌then◌else◌}
use Rattle.std.specs.List.{Contains}
use Rattle.me_terms.specs.Substitutions.{Family}
use Rattle.me_terms.specs.Values.{ProblemValue, ClauseValue, EntryValue}
use Rattle.me_terms.specs.Context.{Context}
use Rattle.me_terms.specs.Close.{IsClose}
use Rattle.me_terms.specs.Assert.{IsAssert}
use Rattle.me_terms.specs.Productive.{IsProductiveUnifier}
use Rattle.me_terms.specs.Order.{Precedes, clause_key, assert_key}
use Rattle.me_terms.specs.declared.bounds.Bounds.{Bounds}
use Rattle.me_terms.specs.declared.atom.Literal.{Literal}
use Rattle.me_laws_increments.specs.Pairs.{HasPair}
use Rattle.me_laws_increments.specs.Pivots.{IsPivot}
use Rattle.tuple_search.specs.declared.limits.Pivot.{Pivot}
use Rattle.tuple_search.specs.Enumeration.{HasPivot}
use Rattle.clause_pairs.specs.declared.clause_place.ClausePlace.{ClausePlace}
use Rattle.clause_pairs.specs.Meetings.{LiteralAt}
use Rattle.candidate_keys.specs.Keys.{AssertKeyValue, HasCode, UnifierKeyValue}
use Rattle.candidate_store.specs.Kept.{IsKeyOf}

-- Some clauses and tuples.
abbrev pub Region : Type 1
Region = ℕ → List ℕ → Type 0

-- the tuples of all clauses with that pivot
abbrev pub WithPivot : ℕ → Region
WithPivot p c tuple = (i : ℕ) × IsPivot tuple p i

-- the tuples of all clauses whose pivot is at that position or later
abbrev pub PivotFrom : ℕ → Region
PivotFrom from c tuple = (p i : ℕ) × IsPivot tuple p i × (from ≤ p)

-- the tuples of all clauses whose pivot is at a position from the first on and before the second
abbrev pub PivotWithin : ℕ → ℕ → Region
PivotWithin from to c tuple = (p i : ℕ) × IsPivot tuple p i × (from ≤ p) × (p < to)

-- the tuples of a clause with that pivot, first at that place
abbrev pub At : ClausePlace → ℕ → Region
At q p c tuple = (c ≡ q.clause) × IsPivot tuple p q.place

-- The list of some place is empty, which is not the skipped one.
abbrev pub HasNone : List (List ℕ) → ℕ → Type 0
HasNone lists skip = (i : ℕ) × (¬ (i ≡ skip)) × (slice_get lists i ≡ Some [])

-- The list of that place of that clause is empty.
abbrev pub IsBareAt : List (List (List ℕ)) → ℕ → ℕ → Type 0
IsBareAt lists c i = (list : List (List ℕ)) × (slice_get lists c ≡ Some list) × (slice_get list i ≡ Some [])

-- No entry stands against some literal of the clause.
abbrev pub HasUnmet : ProblemValue → Context → ℕ → Type 0
HasUnmet problem context c =
    (i : ℕ) × (l : Literal) × LiteralAt problem (record { clause = c; place = i }) l × (¬ HasPair context l)

-- A clause, by its place in the problem, and a tuple.
pub record ClosingValue : Type 0 where
  pub clause : ℕ
  pub tuple : List ℕ

-- What is found is a Close, and no Close of the region comes before it; or the region has none.
abbrev pub FoundClose : ProblemValue → Context → Region → Option ClosingValue → Type 0
FoundClose problem context region None = (c : ℕ) (tuple : List ℕ) → region c tuple → ¬ IsClose problem context c tuple
FoundClose problem context region (Some best) =
    IsClose problem context best.clause best.tuple
    × ((c : ℕ) (tuple : List ℕ) → region c tuple → IsClose problem context c tuple → Precedes (clause_key best.clause best.tuple) (clause_key c tuple))

-- Of the two it is the one that comes first.
abbrev pub IsFirstOfTwo : ClosingValue → ClosingValue → ClosingValue → Type 0
IsFirstOfTwo best next found =
    ((found ≡ best) × Precedes (clause_key best.clause best.tuple) (clause_key next.clause next.tuple))
    ⊎ ((found ≡ next) × ¬ Precedes (clause_key best.clause best.tuple) (clause_key next.clause next.tuple))

-- Of what was found before and what is found next, each if anything is, it is the one that comes first.
pub record IsFirstOf (best next found : Option ClosingValue) : Type 0 where
  pub one : (found ≡ best) ⊎ (found ≡ next)
  pub old : IfSome best (λ b. (f : ClosingValue) × (found ≡ Some f) × Precedes (clause_key f.clause f.tuple) (clause_key b.clause b.tuple))
  pub new : IfSome next (λ b. (f : ClosingValue) × (found ≡ Some f) × Precedes (clause_key f.clause f.tuple) (clause_key b.clause b.tuple))

-- Some clauses, places in them and tuples for the other places.
abbrev pub AssertRegion : Type 1
AssertRegion = ℕ → ℕ → List ℕ → Type 0

-- by that place of the clause, the tuples with that pivot, if one is asked for
abbrev pub ByPlace : ℕ → ℕ → Option Pivot → AssertRegion
ByPlace c place pivot c' place' tuple = (c' ≡ c) × (place' ≡ place) × HasPivot pivot tuple

-- by the places of that clause, all tuples
abbrev pub ByClause : ℕ → AssertRegion
ByClause c c' place' tuple = c' ≡ c

-- where a place of a clause stands in the tuple that skips another place
abbrev pub index_of : ℕ → ℕ → ℕ
index_of skip place = if ltb place skip then place else place - 1

-- by the other places of the clause, the tuples that have that pivot first at the place
abbrev pub AssertsAt : ClausePlace → ℕ → AssertRegion
AssertsAt q p c place tuple = (c ≡ q.clause) × (¬ (place ≡ q.place)) × IsPivot tuple p (index_of place q.place)

-- the same by that place alone
abbrev pub Beside : ClausePlace → ℕ → ℕ → AssertRegion
Beside q skip p c place tuple = (place ≡ skip) × AssertsAt q p c place tuple

-- All Asserts of the region are among the keys.
abbrev pub HoldsAssertsIn : ProblemValue → Bounds → Context → AssertRegion → List AssertKeyValue → Type 0
HoldsAssertsIn problem bounds context region keys =
    (c place : ℕ) (tuple : List ℕ) (e : EntryValue) → region c place tuple → IsAssert problem bounds context c place tuple e → HasCode keys (assert_key c place tuple e)

-- What the first list has the second has.
abbrev pub Keeps : {A : Type 0} → List A → List A → Type 0
Keeps {A} before after = (x : A) → Contains before x → Contains after x

-- One of the keys is of the clause and the tuple.
abbrev pub HasKeyIn : ProblemValue → Bounds → Context → List UnifierKeyValue → ℕ → List ℕ → Type 0
HasKeyIn problem bounds context keys c tuple =
    (key : UnifierKeyValue) × Contains keys key × IsKeyOf problem bounds context c tuple key

-- The keys have one of each productive unifier of the region.
abbrev pub HaveUnifiersIn : ProblemValue → Bounds → Context → Region → List UnifierKeyValue → Type 0
HaveUnifiersIn problem bounds context region keys =
    (c : ℕ) (tuple : List ℕ) (clause : ClauseValue) (family : Family) → region c tuple → IsProductiveUnifier problem context c tuple clause family → HasKeyIn problem bounds context keys c tuple
