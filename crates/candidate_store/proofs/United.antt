-- The steps of the search for the productive unifiers with a pivot.
use Rattle.std.proofs.Common.{◌≡◌, ℕ, zero, suc, ◌+◌, ◌<◌, ◌≤◌, ◌⊎◌, inl, inr, List, [], ◌∷◌, ◌++◌, length, Option, Some, None, refl, sym, subst, ◌∙◌, arith}
use Rattle.std.proofs.lemmas.Bool.{cases_lt}
use Rattle.std.proofs.lemmas.Option.{same_Some, none-some, slice_get_within}
use Rattle.std.proofs.lemmas.List.Elements.{Contains-push}
use Rattle.me_terms.specs.Substitutions.{Family}
use Rattle.me_terms.specs.Values.{ProblemValue, ClauseValue, EntryValue}
use Rattle.me_terms.specs.Context.{Context, IsVisible}
use Rattle.me_terms.specs.Positions.{ClauseAt, positions_of}
use Rattle.me_terms.specs.Productive.{IsProductiveUnifier}
use Rattle.me_terms.specs.declared.bounds.Bounds.{Bounds}
use Rattle.me_laws.proofs.Determined.{clause_same}
use Rattle.me_laws_increments.specs.Pivots.{IsPivot}
use Rattle.me_laws_increments.proofs.Places.{there}
use Rattle.tuple_search.specs.declared.limits.Limits.{Limits}
use Rattle.tuple_search.specs.Enumeration.{IsLater, HasUnifier, IsLastTuple}
use Rattle.tuple_search.specs.Cursors.{CursorValue}
use Rattle.tuple_search.proofs.Unifiers.{position_there}
use Rattle.next_rule.proofs.Cursors.{IsCursor, Advances}
use Rattle.next_rule.proofs.Tuples.{passed_or_here}
use Rattle.clause_pairs.specs.declared.clause_place.ClausePlace.{ClausePlace}
use Rattle.candidate_keys.specs.Keys.{UnifierKeyValue}
use Rattle.candidate_store.specs.Kept.{IsKeyOf}
use Rattle.candidate_store.specs.Searches.{Region, At, WithPivot, PivotFrom, PivotWithin, Keeps, HasKeyIn, HaveUnifiersIn}
use Rattle.candidate_store.proofs.Collected.{keeps_on}

-- What a search for the unifiers at a place asks of them.
abbrev pub pivot_limits : ClausePlace → ℕ → Limits
pivot_limits q p = record { remaining = None; weight = None; pivot = Some (record { position = p; index = q.place }) }

-- The cursor has passed no productive unifier of which no key is among these.
pub record Unites (problem : ProblemValue) (bounds : Bounds) (context : Context) (q : ClausePlace) (p : ℕ) (clause : ClauseValue) (cursor : CursorValue) (first keys : List UnifierKeyValue) : Type 0 where
  pub over : IsCursor context clause.literals None (pivot_limits q p) cursor
  pub kept : Keeps first keys
  pub held : (tuple : List ℕ) (other : ClauseValue) (f : Family) → IsPivot tuple p q.place → ¬ IsLater cursor.at tuple → IsProductiveUnifier problem context q.clause tuple other f → HasKeyIn problem bounds context keys q.clause tuple

-- the tuples of the first n clauses whose pivot is the pseudo-literal's position
abbrev pub PseudoBefore : ℕ → Region
PseudoBefore n c tuple = (c < n) × WithPivot 0 c tuple

module _ (problem : ProblemValue) (bounds : Bounds) (context : Context) where
  module _ (q : ClausePlace) (p : ℕ) (clause : ClauseValue) (clause_at : ClauseAt problem q.clause clause) where
    abbrev United : CursorValue → List UnifierKeyValue → List UnifierKeyValue → Type 0
    United cursor first keys = Unites problem bounds context q p clause cursor first keys

    unifier_of : (tuple : List ℕ) (other : ClauseValue) (f : Family) → IsPivot tuple p q.place → IsProductiveUnifier problem context q.clause tuple other f → HasUnifier context clause.literals None (pivot_limits q p) tuple
    unifier_of tuple other f pivot h =
        let P : ClauseValue → Type 0 = λ z. HasUnifier context z.literals None (pivot_limits q p) tuple in
        subst P (clause_same problem q.clause other clause h.clause_at clause_at) (f, h.unifier, record { remains = tt; weighs = tt; pivot = pivot })

    pub unites_none : (cursor : CursorValue) (keys : List UnifierKeyValue) → IsCursor context clause.literals None (pivot_limits q p) cursor → cursor.at ≡ None → Keeps keys keys → United cursor keys keys
    unites_none cursor keys over before keeps = record {
      over = over;
      kept = keeps;
      held = λ tuple other f pivot passed h. (let P : Option (List ℕ) → Type 0 = λ z. ¬ IsLater z tuple in absurd (subst P before passed tt));
    }

    pub unites_more : (old new : CursorValue) (first keys more : List UnifierKeyValue) (tuple : List ℕ) → Advances context clause.literals None (pivot_limits q p) old new → new.at ≡ Some tuple → Keeps keys more → ((other : ClauseValue) (f : Family) → IsProductiveUnifier problem context q.clause tuple other f → HasKeyIn problem bounds context more q.clause tuple) → United old first keys → United new first more
    unites_more old new first keys more tuple moves at keeps added h = record {
      over = moves.over;
      kept = keeps_on first keys more h.kept keeps;
      held = λ tuple2 other f pivot passed g.
          let P : Option (List ℕ) → Type 0 = λ z. ¬ IsLater z tuple2 in
          let still = subst P moves.stands passed in
          elim (passed_or_here context clause.literals None (pivot_limits q p) old.at moves.tuple tuple2 moves.is_next (unifier_of tuple2 other f pivot g) still) as (λ _. HasKeyIn problem bounds context more q.clause tuple2) [
            | inl before ↦ (let k = h.held tuple2 other f pivot before g in (k.0, keeps k.0 k.1, k.2))
            | inr here ↦
                (let same : tuple2 ≡ tuple = here ∙ same_Some moves.tuple tuple (sym moves.stands ∙ at) in
                let Q : List ℕ → Type 0 = λ z. IsProductiveUnifier problem context q.clause z other f in
                let R : List ℕ → Type 0 = λ z. HasKeyIn problem bounds context more q.clause z in
                subst R (sym same) (added other f (subst Q same g)))
          ];
    }

    pub unites_all : (cursor : CursorValue) (first keys : List UnifierKeyValue) → United cursor first keys → IsLastTuple context clause.literals None (pivot_limits q p) cursor.at → HaveUnifiersIn problem bounds context (At q p) keys
    unites_all cursor first keys h last c tuple other f region g =
        let P : ℕ → Type 0 = λ z. IsProductiveUnifier problem context z tuple other f in
        let Q : ℕ → Type 0 = λ z. HasKeyIn problem bounds context keys z tuple in
        let mine = subst P region.0 g in
        subst Q (sym region.0) (h.held tuple other f region.1 (last tuple (unifier_of tuple other f region.1 mine)) mine)

  -- ---- a key that is put to the others
  pub key_put : (keys : List UnifierKeyValue) (key : UnifierKeyValue) (c : ℕ) (tuple : List ℕ) → IsKeyOf problem bounds context c tuple key → HasKeyIn problem bounds context (keys ++ key ∷ []) c tuple
  key_put keys key c tuple h = (key, Contains-push keys key, h)

  -- ---- regions
  pub have_fewer : (P Q : Region) (keys : List UnifierKeyValue) → ((c : ℕ) (tuple : List ℕ) → Q c tuple → P c tuple) → HaveUnifiersIn problem bounds context P keys → HaveUnifiersIn problem bounds context Q keys
  have_fewer P Q keys less h c tuple clause f region g = h c tuple clause f (less c tuple region) g

  pub have_both : (P Q R : Region) (old new : List UnifierKeyValue) → ((c : ℕ) (tuple : List ℕ) → R c tuple → P c tuple ⊎ Q c tuple) → Keeps old new → HaveUnifiersIn problem bounds context P old → HaveUnifiersIn problem bounds context Q new → HaveUnifiersIn problem bounds context R new
  have_both P Q R old new cases keeps f g c tuple clause family region h =
      elim (cases c tuple region) as (λ _. HasKeyIn problem bounds context new c tuple) [
        | inl before ↦ (let k = f c tuple clause family before h in (k.0, keeps k.0 k.1, k.2))
        | inr here ↦ g c tuple clause family here h
      ]

  -- the position of a pivot is visible
  pub pivot_visible : (c : ℕ) (tuple : List ℕ) (clause : ClauseValue) (f : Family) (p i : ℕ) → IsProductiveUnifier problem context c tuple clause f → IsPivot tuple p i → (e : EntryValue) × IsVisible context p e
  pivot_visible c tuple clause f p i h pivot =
      let at = position_there None tuple i p pivot.at in
      let within = slice_get_within (positions_of None tuple) i (Some p) at in
      let long = h.unifier.opposite.each_place in
      let l = there clause.literals i (omega (arith, within, long)) in
      let seen = h.unifier.opposite.visible i p l.0 l.1 at in
      (seen.0, seen.1)

  pub hidden_none : (p : ℕ) (keys : List UnifierKeyValue) → ((e : EntryValue) → ¬ IsVisible context p e) → HaveUnifiersIn problem bounds context (WithPivot p) keys
  hidden_none p keys hidden c tuple clause f region h =
      let seen = pivot_visible c tuple clause f p region.0 h region.1 in
      absurd (hidden seen.0 seen.1)

  -- ---- all positions from one on
  within_cases : (from p : ℕ) (c : ℕ) (tuple : List ℕ) → PivotWithin from (p + 1) c tuple → PivotWithin from p c tuple ⊎ WithPivot p c tuple
  within_cases from p c tuple region =
      elim (cases_lt region.0 p) as (λ _. PivotWithin from p c tuple ⊎ WithPivot p c tuple) [
        | inl lt ↦ inl (region.0, region.1, region.2, region.3, lt)
        | inr ge ↦
            (let lt = region.4 in
            let same : region.0 ≡ p = omega (arith, ge, lt) in
            let P : ℕ → Type 0 = λ z. IsPivot tuple z region.1 in
            inr (region.1, subst P same region.2))
      ]

  pub within_more : (from p : ℕ) (old new : List UnifierKeyValue) → Keeps old new → HaveUnifiersIn problem bounds context (PivotWithin from p) old → HaveUnifiersIn problem bounds context (WithPivot p) new → HaveUnifiersIn problem bounds context (PivotWithin from (p + 1)) new
  within_more from p old new keeps f g = have_both (PivotWithin from p) (WithPivot p) (PivotWithin from (p + 1)) old new (within_cases from p) keeps f g

  pub within_none : (from : ℕ) (keys : List UnifierKeyValue) → 0 < from → HaveUnifiersIn problem bounds context (PivotWithin from 1) keys
  within_none from keys positive c tuple clause f region h = let ge = region.3 in let lt = region.4 in absurd (omega (arith, ge, lt, positive))

  pub within_first : (from first : ℕ) (keys : List UnifierKeyValue) → ((p : ℕ) → from ≤ p → p < first → p < 1) → HaveUnifiersIn problem bounds context (PivotWithin from 1) keys → HaveUnifiersIn problem bounds context (PivotWithin from first) keys
  within_first from first keys least h =
      have_fewer (PivotWithin from 1) (PivotWithin from first) keys (λ c tuple r. (r.0, r.1, r.2, r.3, least r.0 r.3 r.4)) h

  pub within_pseudo : (keys : List UnifierKeyValue) (from : ℕ) → from ≤ 0 → HaveUnifiersIn problem bounds context (WithPivot 0) keys → HaveUnifiersIn problem bounds context (PivotWithin from 1) keys
  within_pseudo keys from zero_from h =
      have_fewer (WithPivot 0) (PivotWithin from 1) keys
      (λ c tuple r. let lt = r.4 in let same : r.0 ≡ 0 = omega (arith, lt) in let P : ℕ → Type 0 = λ z. IsPivot tuple z r.1 in (r.1, subst P same r.2)) h

  pub within_all : (from to : ℕ) (keys : List UnifierKeyValue) → length context ≤ to → HaveUnifiersIn problem bounds context (PivotWithin from to) keys → HaveUnifiersIn problem bounds context (PivotFrom from) keys
  within_all from to keys all h c tuple clause f region g =
      let seen = pivot_visible c tuple clause f region.0 region.1 g region.2 in
      let lt = slice_get_within context region.0 seen.0 seen.1.0 in
      h c tuple clause f (region.0, region.1, region.2, region.3, omega (arith, lt, all)) g

  -- ---- the pseudo-literal alone
  first_place : (tuple : List ℕ) (i : ℕ) → IsPivot tuple 0 i → i ≡ 0
  first_place tuple zero h = refl
  first_place [] (suc i) h = absurd (none-some 0 h.at)
  first_place (x ∷ xs) (suc i) h = let lt = h.before 0 x (omega arith) refl in absurd (omega (arith, lt))

  pub pseudo_none : (keys : List UnifierKeyValue) → HaveUnifiersIn problem bounds context (PseudoBefore 0) keys
  pseudo_none keys c tuple clause f region h = let lt = region.0 in absurd (omega (arith, lt))

  pseudo_cases : (n c : ℕ) (tuple : List ℕ) → PseudoBefore (n + 1) c tuple → PseudoBefore n c tuple ⊎ At (record { clause = n; place = 0 }) 0 c tuple
  pseudo_cases n c tuple region =
      elim (cases_lt c n) as (λ _. PseudoBefore n c tuple ⊎ At (record { clause = n; place = 0 }) 0 c tuple) [
        | inl lt ↦ inl (lt, region.1)
        | inr ge ↦
            (let lt = region.0 in
            let P : ℕ → Type 0 = λ z. IsPivot tuple 0 z in
            inr (omega (arith, ge, lt), subst P (first_place tuple region.1.0 region.1.1) region.1.1))
      ]

  pub pseudo_more : (n : ℕ) (old new : List UnifierKeyValue) → Keeps old new → HaveUnifiersIn problem bounds context (PseudoBefore n) old → HaveUnifiersIn problem bounds context (At (record { clause = n; place = 0 }) 0) new → HaveUnifiersIn problem bounds context (PseudoBefore (n + 1)) new
  pseudo_more n old new keeps f g = have_both (PseudoBefore n) (At (record { clause = n; place = 0 }) 0) (PseudoBefore (n + 1)) old new (pseudo_cases n) keeps f g

  pub pseudo_all : (n : ℕ) (keys : List UnifierKeyValue) → length problem.clauses ≤ n → HaveUnifiersIn problem bounds context (PseudoBefore n) keys → HaveUnifiersIn problem bounds context (WithPivot 0) keys
  pseudo_all n keys all h c tuple clause f region g =
      let lt = slice_get_within problem.clauses c clause g.clause_at in
      h c tuple clause f (omega (arith, lt, all), region) g
