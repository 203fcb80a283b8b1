-- What is collected by searches one after another.
use Rattle.std.proofs.Common.{◌≡◌, ℕ, ◌+◌, ◌<◌, ◌≤◌, ◌⊎◌, inl, inr, List, [], ◌∷◌, ◌++◌, length, get_or, take, Some, None, sym, subst, ◌∙◌, arith}
use Rattle.std.specs.List.{Contains}
use Rattle.std.proofs.lemmas.Bool.{cases_lt}
use Rattle.std.proofs.lemmas.Option.{slice_get_within}
use Rattle.std.proofs.lemmas.List.{take_more, take_all}
use Rattle.std.proofs.lemmas.List.Elements.{Contains-append_left, Contains-push_cases}
use Rattle.me_terms.specs.Values.{ProblemValue, ClauseValue, EntryValue}
use Rattle.me_terms.specs.Context.{Context}
use Rattle.me_terms.specs.Positions.{ClauseAt}
use Rattle.me_terms.specs.Assert.{IsAssert}
use Rattle.me_terms.specs.declared.bounds.Bounds.{Bounds}
use Rattle.me_laws.proofs.Determined.{clause_same}
use Rattle.me_laws_increments.specs.Pivots.{IsPivot}
use Rattle.kept_asserts.specs.Held.{HoldsAsserts}
use Rattle.clause_pairs.specs.declared.clause_place.ClausePlace.{ClausePlace}
use Rattle.me_terms.specs.Order.{assert_key}
use Rattle.candidate_keys.specs.Keys.{AssertKeyValue, HasCode, UnifierKeyValue}
use Rattle.candidate_store.specs.Kept.{IsKeyOf}
use Rattle.candidate_store.specs.Searches.{Region, AssertRegion, At, AssertsAt, Beside, ByPlace, ByClause, index_of, Keeps, HoldsAssertsIn, HaveUnifiersIn}

pub keeps_all : {A : Type 0} (xs : List A) → Keeps xs xs
keeps_all xs x h = h

pub keeps_on : {A : Type 0} (xs ys zs : List A) → Keeps xs ys → Keeps ys zs → Keeps xs zs
keeps_on xs ys zs f g x h = g x (f x h)

pub keeps_push : {A : Type 0} (xs : List A) (y : A) → Keeps xs (xs ++ y ∷ [])
keeps_push xs y x h = Contains-append_left xs (y ∷ []) x h

-- ---- places
-- the tuples at some of the places
abbrev pub AtSome : List ClausePlace → ℕ → Region
AtSome qs p c tuple = (q : ClausePlace) × Contains qs q × At q p c tuple

abbrev pub AssertsAtSome : List ClausePlace → ℕ → AssertRegion
AssertsAtSome qs p c place tuple = (q : ClausePlace) × Contains qs q × AssertsAt q p c place tuple

abbrev pub BesideFirst : ClausePlace → ℕ → ℕ → AssertRegion
BesideFirst q n p c place tuple = (place < n) × AssertsAt q p c place tuple

abbrev pub ByFirst : ℕ → ℕ → AssertRegion
ByFirst c n c' place' tuple' = (c' ≡ c) × (place' < n)

abbrev pub InFirst : ℕ → AssertRegion
InFirst n c place tuple = c < n

-- one place more is among the first ones or is the next one
pub front_cases : (qs : List ClausePlace) (i : ℕ) (d r : ClausePlace) → i < length qs → Contains (take (i + 1) qs) r → Contains (take i qs) r ⊎ (get_or qs i d ≡ r)
front_cases qs i d r lt h =
    let P : List ClausePlace → Type 0 = λ z. Contains z r in
    Contains-push_cases (take i qs) (get_or qs i d) r (subst P (take_more qs i d lt) h)

pub some_cases : (qs : List ClausePlace) (i p : ℕ) (d : ClausePlace) → i < length qs → (c : ℕ) (tuple : List ℕ) → AtSome (take (i + 1) qs) p c tuple → AtSome (take i qs) p c tuple ⊎ At (get_or qs i d) p c tuple
some_cases qs i p d lt c tuple region =
    elim (front_cases qs i d region.0 lt region.1) as (λ _. AtSome (take i qs) p c tuple ⊎ At (get_or qs i d) p c tuple) [
      | inl before ↦ inl (region.0, before, region.2)
      | inr here ↦ (let P : ClausePlace → Type 0 = λ z. At z p c tuple in inr (subst P (sym here) region.2))
    ]

pub front_all : (qs : List ClausePlace) (n : ℕ) (r : ClausePlace) → length qs ≤ n → Contains qs r → Contains (take n qs) r
front_all qs n r le h = let P : List ClausePlace → Type 0 = λ z. Contains z r in subst P (sym (take_all n qs le)) h

module _ (problem : ProblemValue) (bounds : Bounds) (context : Context) where
  -- ---- Asserts
  pub asserts_none : (p : ℕ) (keys : List AssertKeyValue) → HoldsAssertsIn problem bounds context (AssertsAtSome [] p) keys
  asserts_none p keys c place tuple e region h = let lt = region.1.1 in absurd (omega (arith, lt))

  pub asserts_more : (qs : List ClausePlace) (i p : ℕ) (d : ClausePlace) (old new : List AssertKeyValue) → i < length qs → Keeps old new → HoldsAssertsIn problem bounds context (AssertsAtSome (take i qs) p) old → HoldsAssertsIn problem bounds context (AssertsAt (get_or qs i d) p) new → HoldsAssertsIn problem bounds context (AssertsAtSome (take (i + 1) qs) p) new
  asserts_more qs i p d old new lt keeps f g c place tuple e region h =
      elim (front_cases qs i d region.0 lt region.1) as (λ _. HasCode new (assert_key c place tuple e)) [
        | inl before ↦ (let k = f c place tuple e (region.0, before, region.2) h in (k.0, keeps k.0 k.1, k.2))
        | inr here ↦ (let P : ClausePlace → Type 0 = λ z. AssertsAt z p c place tuple in g c place tuple e (subst P (sym here) region.2) h)
      ]

  -- all places
  pub asserts_whole : (qs : List ClausePlace) (n p : ℕ) (keys : List AssertKeyValue) → length qs ≤ n → HoldsAssertsIn problem bounds context (AssertsAtSome (take n qs) p) keys → HoldsAssertsIn problem bounds context (AssertsAtSome qs p) keys
  asserts_whole qs n p keys all f = let P : List ClausePlace → Type 0 = λ z. HoldsAssertsIn problem bounds context (AssertsAtSome z p) keys in subst P (take_all n qs all) f

  pub asserts_both : (P Q R : AssertRegion) (old new : List AssertKeyValue) → ((c place : ℕ) (tuple : List ℕ) → R c place tuple → P c place tuple ⊎ Q c place tuple) → Keeps old new → HoldsAssertsIn problem bounds context P old → HoldsAssertsIn problem bounds context Q new → HoldsAssertsIn problem bounds context R new
  asserts_both P Q R old new cases keeps f g c place tuple e region h =
      elim (cases c place tuple region) as (λ _. HasCode new (assert_key c place tuple e)) [
        | inl before ↦ (let k = f c place tuple e before h in (k.0, keeps k.0 k.1, k.2))
        | inr here ↦ g c place tuple e here h
      ]

  -- the place of an Assert is one of its clause's
  place_within : (c place : ℕ) (tuple : List ℕ) (e : EntryValue) (clause : ClauseValue) → ClauseAt problem c clause → IsAssert problem bounds context c place tuple e → place < length clause.literals
  place_within c place tuple e clause clause_at h =
      let P : ClauseValue → Type 0 = λ z. place < length z.literals in
      subst P (clause_same problem c h.clause clause h.clause_at clause_at) (slice_get_within h.clause.literals place h.literal h.literal_at)

  number_cases : (i n : ℕ) → i < n + 1 → (i < n) ⊎ (i ≡ n)
  number_cases i n h = elim (cases_lt i n) as (λ _. (i < n) ⊎ (i ≡ n)) [ inl l ↦ inl l | inr g ↦ inr (omega arith) ]

  -- ---- the places of a clause, with a pivot
  pub beside_none : (q : ClausePlace) (p : ℕ) (keys : List AssertKeyValue) → HoldsAssertsIn problem bounds context (BesideFirst q 0 p) keys
  beside_none q p keys c place tuple e region h = let lt = region.0 in absurd (omega (arith, lt))

  pub beside_more : (q : ClausePlace) (n p : ℕ) (old new : List AssertKeyValue) → Keeps old new → HoldsAssertsIn problem bounds context (BesideFirst q n p) old → HoldsAssertsIn problem bounds context (Beside q n p) new → HoldsAssertsIn problem bounds context (BesideFirst q (n + 1) p) new
  beside_more q n p old new keeps f g =
      asserts_both (BesideFirst q n p) (Beside q n p) (BesideFirst q (n + 1) p) old new
      (λ c place tuple r. elim (number_cases place n r.0) as (λ _. BesideFirst q n p c place tuple ⊎ Beside q n p c place tuple) [ inl lt ↦ inl (lt, r.1) | inr here ↦ inr (here, r.1) ])
      keeps f g

  pub beside_all : (q : ClausePlace) (n p : ℕ) (clause : ClauseValue) (keys : List AssertKeyValue) → ClauseAt problem q.clause clause → length clause.literals ≤ n → HoldsAssertsIn problem bounds context (BesideFirst q n p) keys → HoldsAssertsIn problem bounds context (AssertsAt q p) keys
  beside_all q n p clause keys clause_at all f c place tuple e region h =
      let P : ℕ → Type 0 = λ z. IsAssert problem bounds context z place tuple e in
      let lt = place_within q.clause place tuple e clause clause_at (subst P region.0 h) in
      f c place tuple e (omega (arith, lt, all), region) h

  pub beside_itself : (q : ClausePlace) (skip p : ℕ) (keys : List AssertKeyValue) → skip ≡ q.place → HoldsAssertsIn problem bounds context (Beside q skip p) keys
  beside_itself q skip p keys same c place tuple e region h = absurd (region.1.1 (region.0 ∙ same))

  pub beside_place : (q : ClausePlace) (skip p i : ℕ) (keys : List AssertKeyValue) → i ≡ index_of skip q.place → HoldsAssertsIn problem bounds context (ByPlace q.clause skip (Some (record { position = p; index = i }))) keys → HoldsAssertsIn problem bounds context (Beside q skip p) keys
  beside_place q skip p i keys is f c place tuple e region h =
      let P : ℕ → Type 0 = λ z. IsPivot tuple p (index_of z q.place) in
      let Q : ℕ → Type 0 = λ z. IsPivot tuple p z in
      f c place tuple e (region.1.0, region.0, subst Q (sym is) (subst P region.0 region.1.2)) h

  -- ---- the places of a clause, and the clauses
  pub by_none : (c : ℕ) (keys : List AssertKeyValue) → HoldsAssertsIn problem bounds context (ByFirst c 0) keys
  by_none c keys c' place tuple e region h = let lt = region.1 in absurd (omega (arith, lt))

  pub by_more : (c n : ℕ) (old new : List AssertKeyValue) → Keeps old new → HoldsAssertsIn problem bounds context (ByFirst c n) old → HoldsAssertsIn problem bounds context (ByPlace c n None) new → HoldsAssertsIn problem bounds context (ByFirst c (n + 1)) new
  by_more c n old new keeps f g =
      asserts_both (ByFirst c n) (ByPlace c n None) (ByFirst c (n + 1)) old new
      (λ c' place tuple r. elim (number_cases place n r.1) as (λ _. ByFirst c n c' place tuple ⊎ ByPlace c n None c' place tuple) [ inl lt ↦ inl (r.0, lt) | inr here ↦ inr (r.0, here, tt) ])
      keeps f g

  pub by_all : (c n : ℕ) (clause : ClauseValue) (keys : List AssertKeyValue) → ClauseAt problem c clause → length clause.literals ≤ n → HoldsAssertsIn problem bounds context (ByFirst c n) keys → HoldsAssertsIn problem bounds context (ByClause c) keys
  by_all c n clause keys clause_at all f c' place tuple e region h =
      let P : ℕ → Type 0 = λ z. IsAssert problem bounds context z place tuple e in
      let lt = place_within c place tuple e clause clause_at (subst P region h) in
      f c' place tuple e (region, omega (arith, lt, all)) h

  pub in_none : (keys : List AssertKeyValue) → HoldsAssertsIn problem bounds context (InFirst 0) keys
  in_none keys c place tuple e region h = absurd (omega (arith, region))

  pub in_more : (n : ℕ) (old new : List AssertKeyValue) → Keeps old new → HoldsAssertsIn problem bounds context (InFirst n) old → HoldsAssertsIn problem bounds context (ByClause n) new → HoldsAssertsIn problem bounds context (InFirst (n + 1)) new
  in_more n old new keeps f g = asserts_both (InFirst n) (ByClause n) (InFirst (n + 1)) old new (λ c place tuple r. number_cases c n r) keeps f g

  pub in_all : (n : ℕ) (keys : List AssertKeyValue) → length problem.clauses ≤ n → HoldsAssertsIn problem bounds context (InFirst n) keys → HoldsAsserts problem bounds context keys
  in_all n keys all f c place tuple e h =
      let lt = slice_get_within problem.clauses c h.clause h.clause_at in
      f c place tuple e (omega (arith, lt, all)) h

  -- ---- unifiers
  pub unifiers_none : (p : ℕ) (keys : List UnifierKeyValue) → HaveUnifiersIn problem bounds context (AtSome [] p) keys
  unifiers_none p keys c tuple clause family region h = let lt = region.1.1 in absurd (omega (arith, lt))

  pub unifiers_more : (qs : List ClausePlace) (i p : ℕ) (d : ClausePlace) (old new : List UnifierKeyValue) → i < length qs → Keeps old new → HaveUnifiersIn problem bounds context (AtSome (take i qs) p) old → HaveUnifiersIn problem bounds context (At (get_or qs i d) p) new → HaveUnifiersIn problem bounds context (AtSome (take (i + 1) qs) p) new
  unifiers_more qs i p d old new lt keeps f g c tuple clause family region h =
      elim (some_cases qs i p d lt c tuple region) as (λ _. (key : UnifierKeyValue) × Contains new key × IsKeyOf problem bounds context c tuple key) [
        | inl before ↦ (let k = f c tuple clause family before h in (k.0, keeps k.0 k.1, k.2))
        | inr here ↦ g c tuple clause family here h
      ]

  pub unifiers_whole : (qs : List ClausePlace) (n p : ℕ) (keys : List UnifierKeyValue) → length qs ≤ n → HaveUnifiersIn problem bounds context (AtSome (take n qs) p) keys → HaveUnifiersIn problem bounds context (AtSome qs p) keys
  unifiers_whole qs n p keys all f = let P : List ClausePlace → Type 0 = λ z. HaveUnifiersIn problem bounds context (AtSome z p) keys in subst P (take_all n qs all) f
