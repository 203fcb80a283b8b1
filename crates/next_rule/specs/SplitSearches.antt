-- Searches for the least Split, and for the first literal that is left where there is none.
use Rattle.std.specs.Prelude.{◌≡◌, ℕ, ◌<◌, List, [], ◌∷◌, slice_get, Option, Some, None, ◌⊎◌, ⊤, IsSome}
use Rattle.me_terms.specs.Substitutions.{Family}
use Rattle.me_terms.specs.Measures.{literal_weight}
use Rattle.me_terms.specs.Values.{ProblemValue, ClauseValue}
use Rattle.me_terms.specs.Context.{Context}
use Rattle.me_terms.specs.Positions.{positions_of}
use Rattle.me_terms.specs.Unifier.{IsContextUnifier, unified}
use Rattle.me_terms.specs.Remainder.{remainder}
use Rattle.me_terms.specs.Productive.{IsProductiveUnifier, HasProductive}
use Rattle.me_terms.specs.Split.{IsSplit, split_kind, HasSplit}
use Rattle.me_terms.specs.Order.{Precedes, clause_key, split_key, IsLeastSplit}
use Rattle.me_terms.specs.Next.{IsFirstRemaining, IsBeyond}
use Rattle.me_terms.specs.declared.bounds.Bound.{Bound}
use Rattle.me_terms.specs.declared.bounds.Bounds.{Bounds}
use Rattle.me_terms.specs.declared.atom.Literal.{Literal}
use Rattle.me_unify.specs.Equations.{IsMostGeneral}
use Rattle.tuple_search.specs.declared.limits.Limits.{Limits}
use Rattle.tuple_search.specs.Enumeration.{remainder_limit, IsLater}
use Rattle.joint_unifiers.specs.ClauseUnifiers.{UnifierValue, IsUnifierOf}
use Rattle.next_rule.specs.declared.split_state.SplitCandidate.{SplitCandidate}
use Rattle.next_rule.specs.declared.split_state.SplitState.{SplitState}
use Rattle.next_rule.specs.Best.{Updates}

-- ---- the least Split
-- A Split: the clause, the place in it, the tuple, the size of the remainder, and the literal.
pub record SplitAt (problem : ProblemValue) (bounds : Bounds) (context : Context) : Type 0 where
  pub clause : ℕ
  pub place : ℕ
  pub tuple : List ℕ
  pub size : ℕ
  pub literal : Literal
  pub holds : IsSplit problem bounds context clause place tuple size literal

-- By the size of the remainder, then weight.
abbrev pub split_rank : SplitCandidate → List ℕ
split_rank e = e.size ∷ e.weight ∷ []

-- The size and the weight come before those of the best candidate so far; where there is none, any do.
abbrev pub IsSmaller : ℕ → ℕ → Option SplitCandidate → Type 0
IsSmaller size weight None = ⊤
IsSmaller size weight (Some best) = (size < best.size) ⊎ ((size ≡ best.size) × (weight < best.weight))

-- What comes before the best candidate so far has a remainder no larger than its; where there is none, any has.
abbrev pub size_limit : Option SplitCandidate → Option ℕ
size_limit None = None
size_limit (Some best) = Some best.size

abbrev pub split_limits : Option SplitCandidate → Limits
split_limits best = remainder_limit (size_limit best)

-- Some clauses and tuples.
abbrev pub SplitRegion : Type 1
SplitRegion = ℕ → List ℕ → Type 0

-- one tuple of a clause
abbrev pub SplitTuple : ℕ → List ℕ → SplitRegion
SplitTuple c tuple c' tuple' = (c' ≡ c) × (tuple' ≡ tuple)

-- of a clause, the tuples that do not come after a given one
abbrev pub SplitsPassed : ℕ → Option (List ℕ) → SplitRegion
SplitsPassed c at c' tuple' = (c' ≡ c) × ¬ IsLater at tuple'

-- all tuples of a clause
abbrev pub SplitClause : ℕ → SplitRegion
SplitClause c c' tuple' = c' ≡ c

-- the first so many clauses
abbrev pub SplitClauses : ℕ → SplitRegion
SplitClauses clauses c' tuple' = c' < clauses

-- The least Split of the region takes the place of the best candidate so far, where its size and weight come before.
abbrev pub TakesSplits : ProblemValue → Bounds → Context → SplitRegion → Option SplitCandidate → Option SplitCandidate → Type 0
TakesSplits problem bounds context region best better =
    Updates {C = SplitAt problem bounds context} (λ x. record { size = x.size; weight = literal_weight x.literal; literal = x.literal; kind = split_kind x.literal }) split_rank (λ x. split_key x.clause x.tuple x.place x.size x.literal) (λ x. region x.clause x.tuple) best better

-- ---- the first literal that is left
-- Of the region, no clause and tuple has a productive unifier.
abbrev pub NoneProductive : ProblemValue → Context → SplitRegion → Type 0
NoneProductive problem context region =
    (c : ℕ) (tuple : List ℕ) (clause : ClauseValue) (family : Family) → region c tuple → ¬ IsProductiveUnifier problem context c tuple clause family

-- The literal l stands, under the unifier, at the first remainder place of the first productive unifier of the region, by clause and then tuple.
pub record IsFirstRemainingIn (problem : ProblemValue) (context : Context) (region : SplitRegion) (l : Literal) : Type 0 where
  pub c : ℕ
  pub tuple : List ℕ
  pub clause : ClauseValue
  pub family : Family
  pub place : ℕ
  pub others : List ℕ
  pub literal : Literal
  pub among : region c tuple
  pub productive : IsProductiveUnifier problem context c tuple clause family
  pub first : (c' : ℕ) (tuple' : List ℕ) (clause' : ClauseValue) (family' : Family) → region c' tuple' → IsProductiveUnifier problem context c' tuple' clause' family' → Precedes (clause_key c tuple) (clause_key c' tuple')
  pub first_place : remainder context (positions_of None tuple) family ≡ place ∷ others
  pub literal_at : slice_get clause.literals place ≡ Some literal
  pub unified_literal : l ≡ unified family literal

-- After a look at the region: a bound that was met before stays met; else the bound is met that the first literal of the region is beyond; else the region has no productive unifier.
abbrev pub MeetsFirst : ProblemValue → Bounds → Context → SplitRegion → Option Bound → Option Bound → Type 0
MeetsFirst problem bounds context region met now =
    ((now ≡ met) × (IsSome met ⊎ NoneProductive problem context region))
    ⊎ ((met ≡ None) × ((b : Bound) × (now ≡ Some b) × ((l : Literal) × IsFirstRemainingIn problem context region l × IsBeyond b bounds l)))

-- ---- both
-- After a look at the region, the best candidate is kept, and while there is none, the bound that is met first.
pub record Looks (problem : ProblemValue) (bounds : Bounds) (context : Context) (region : SplitRegion) (old new : SplitState) : Type 0 where
  pub takes : TakesSplits problem bounds context region old.best new.best
  pub meets : new.best ≡ None → MeetsFirst problem bounds context region old.met new.met

-- The unifier is one of the clause and the tuple with the entries.
pub record IsUnifying (context : Context) (clause : ClauseValue) (u : UnifierValue) : Type 0 where
  pub of : IsUnifierOf context clause.literals None u.tuple u
  pub family : Family
  pub unifier : IsContextUnifier context clause.literals None u.tuple family

-- The first literal of the unifier's remainder is beyond the bound.
abbrev pub IsFirstBeyond : UnifierValue → Bounds → Bound → Type 0
IsFirstBeyond u bounds b =
    (f : Family) (place : ℕ) (others : List ℕ) (l : Literal) → IsMostGeneral u.equations f → u.remainder ≡ place ∷ others → slice_get u.literals place ≡ Some l → IsBeyond b bounds (unified f l)

-- What the search has found in the end: the literal and kind of the least Split; or there is none, and the first literal that is left is beyond the bound that is met; or there is no productive unifier.
pub record IsSplitResult (problem : ProblemValue) (bounds : Bounds) (context : Context) (state : SplitState) : Type 0 where
  pub best : (e : SplitCandidate) → state.best ≡ Some e → IsLeastSplit problem bounds context e.literal × (e.kind ≡ split_kind e.literal)
  pub none : state.best ≡ None → ¬ HasSplit problem bounds context
  pub met : (b : Bound) → state.best ≡ None → state.met ≡ Some b → (l : Literal) × IsFirstRemaining problem context l × IsBeyond b bounds l
  pub exhausted : state.best ≡ None → state.met ≡ None → ¬ HasProductive problem context
