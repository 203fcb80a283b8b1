-- The steps of the search for the least Close with a pivot.
use Rattle.std.proofs.Common.{◌≡◌, ◌≤◌, ℕ, ◌+◌, ◌<◌, ◌⊎◌, inl, inr, List, [], length, get_or, take, Option, Some, None, refl, sym, subst, ap, ◌∙◌, arith}
use Rattle.std.specs.Prelude.{IfSome}
use Rattle.std.proofs.lemmas.List.{take_all}
use Rattle.std.proofs.lemmas.Option.{same_Some, none-some}
use Rattle.me_terms.specs.Values.{ProblemValue, ClauseValue}
use Rattle.me_terms.specs.Context.{Context}
use Rattle.me_terms.specs.Positions.{ClauseAt}
use Rattle.me_terms.specs.Close.{IsClose}
use Rattle.me_terms.specs.Order.{Precedes, clause_key}
use Rattle.me_laws.proofs.Determined.{clause_same}
use Rattle.me_laws_existence.proofs.Best.{precedes_itself, precedes_transitive, precedes_total}
use Rattle.tuple_search.specs.declared.limits.Limits.{Limits}
use Rattle.tuple_search.specs.Enumeration.{HasUnifier, IsNextTuple, IsLastTuple}
use Rattle.next_rule.proofs.Sizes.{none_within, within_none}
use Rattle.clause_pairs.specs.declared.clause_place.ClausePlace.{ClausePlace}
use Rattle.candidate_store.specs.Searches.{Region, ClosingValue, FoundClose, IsFirstOfTwo, IsFirstOf, At}
use Rattle.candidate_store.proofs.Collected.{AtSome, some_cases}

-- What a search for a Close at a place asks of a unifier.
abbrev pub closing_limits : ClausePlace → ℕ → Limits
closing_limits q p = record { remaining = Some 0; weight = None; pivot = Some (record { position = p; index = q.place }) }

module _ (problem : ProblemValue) (context : Context) (q : ClausePlace) (p : ℕ) (clause : ClauseValue) (clause_at : ClauseAt problem q.clause clause) where
  unifier_of : (c : ℕ) (tuple : List ℕ) → At q p c tuple → IsClose problem context c tuple → HasUnifier context clause.literals None (closing_limits q p) tuple
  unifier_of c tuple region h =
      let P : ℕ → Type 0 = λ z. ClauseAt problem z h.clause in
      let Q : ClauseValue → Type 0 = λ z. HasUnifier context z.literals None (closing_limits q p) tuple in
      subst Q (clause_same problem q.clause h.clause clause (subst P region.0 h.clause_at) clause_at) (h.family, h.unifier, record { remains = none_within h.no_remainder; weighs = tt; pivot = region.1 })

  pub none_at : IsLastTuple context clause.literals None (closing_limits q p) None → FoundClose problem context (At q p) None
  none_at last c tuple region h = last tuple (unifier_of c tuple region h) tt

  pub one_at : (found : ClosingValue) → found.clause ≡ q.clause → IsNextTuple context clause.literals None (closing_limits q p) None found.tuple → FoundClose problem context (At q p) (Some found)
  one_at found same is_next =
      let u = is_next.unifier in
      let P : ℕ → Type 0 = λ z. ClauseAt problem z clause in (
        record { clause = clause; family = u.0; clause_at = subst P (sym same) clause_at; unifier = u.1; no_remainder = within_none u.2.remains },
        λ c tuple region h. inr (same ∙ sym region.0, is_next.least tuple (unifier_of c tuple region h) tt),
      )

-- what is some is found
one_some : (o : Option ClosingValue) (b : ClosingValue) (P : ClosingValue → Type 0) → o ≡ Some b → IfSome o P → P b
one_some o b P is h = let Q : Option ClosingValue → Type 0 = λ z. IfSome z P in subst Q is h

module _ (problem : ProblemValue) (context : Context) where
  pub found_none : (p : ℕ) → FoundClose problem context (AtSome [] p) None
  found_none p c tuple region h = let lt = region.1.1 in absurd (omega (arith, lt))

  -- the first of two that are the least of two regions is that of both
  module _ (P Q R : Region) (cases : (c : ℕ) (tuple : List ℕ) → R c tuple → P c tuple ⊎ Q c tuple) where
    close_of : (S : Region) (o : Option ClosingValue) (f : ClosingValue) → o ≡ Some f → FoundClose problem context S o → IsClose problem context f.clause f.tuple
    close_of S o f is h = let T : Option ClosingValue → Type 0 = λ z. FoundClose problem context S z in (subst T is h).0

    -- a Close of a region is no earlier than what was found there
    not_before : (S : Region) (o : Option ClosingValue) (c : ℕ) (tuple : List ℕ) → FoundClose problem context S o → S c tuple → IsClose problem context c tuple → (b : ClosingValue) × (o ≡ Some b) × Precedes (clause_key b.clause b.tuple) (clause_key c tuple)
    not_before S None c tuple h region close = absurd (h c tuple region close)
    not_before S (Some b) c tuple h region close = (b, refl, h.1 c tuple region close)

    first_by : (best next found : Option ClosingValue) → FoundClose problem context P best → FoundClose problem context Q next → IsFirstOf best next found → (c : ℕ) (tuple : List ℕ) → R c tuple → IsClose problem context c tuple → (f : ClosingValue) × (found ≡ Some f) × Precedes (clause_key f.clause f.tuple) (clause_key c tuple)
    first_by best next found f g first c tuple region close =
        elim (cases c tuple region) as (λ _. (k : ClosingValue) × (found ≡ Some k) × Precedes (clause_key k.clause k.tuple) (clause_key c tuple)) [
          | inl p ↦
              (let b = not_before P best c tuple f p close in
              let k = one_some best b.0 (λ z. (x : ClosingValue) × (found ≡ Some x) × Precedes (clause_key x.clause x.tuple) (clause_key z.clause z.tuple)) b.1 first.old in
              (k.0, k.1, precedes_transitive (clause_key k.0.clause k.0.tuple) (clause_key b.0.clause b.0.tuple) (clause_key c tuple) k.2 b.2))
          | inr q ↦
              (let b = not_before Q next c tuple g q close in
              let k = one_some next b.0 (λ z. (x : ClosingValue) × (found ≡ Some x) × Precedes (clause_key x.clause x.tuple) (clause_key z.clause z.tuple)) b.1 first.new in
              (k.0, k.1, precedes_transitive (clause_key k.0.clause k.0.tuple) (clause_key b.0.clause b.0.tuple) (clause_key c tuple) k.2 b.2))
        ]

    pub found_first : (best next found : Option ClosingValue) → FoundClose problem context P best → FoundClose problem context Q next → IsFirstOf best next found → FoundClose problem context R found
    found_first best next None f g first = λ c tuple region close. let k = first_by best next None f g first c tuple region close in none-some k.0 k.1
    found_first best next (Some b) f g first = (
      elim first.one as (λ _. IsClose problem context b.clause b.tuple) [ inl old ↦ close_of P best b (sym old) f | inr new ↦ close_of Q next b (sym new) g ],
      λ c tuple region close.
          let k = first_by best next (Some b) f g first c tuple region close in
          let S : ClosingValue → Type 0 = λ z. Precedes (clause_key z.clause z.tuple) (clause_key c tuple) in
          subst S (sym (same_Some b k.0 k.1)) k.2,
    )

module _ (problem : ProblemValue) (context : Context) where
  -- one place more
  pub closes_more : (qs : List ClausePlace) (i p : ℕ) (d : ClausePlace) (best next found : Option ClosingValue) → i < length qs → FoundClose problem context (AtSome (take i qs) p) best → FoundClose problem context (At (get_or qs i d) p) next → IsFirstOf best next found → FoundClose problem context (AtSome (take (i + 1) qs) p) found
  closes_more qs i p d best next found lt f g first =
      found_first problem context (AtSome (take i qs) p) (At (get_or qs i d) p) (AtSome (take (i + 1) qs) p) (some_cases qs i p d lt) best next found f g first

  pub closes_whole : (qs : List ClausePlace) (n p : ℕ) (found : Option ClosingValue) → length qs ≤ n → FoundClose problem context (AtSome (take n qs) p) found → FoundClose problem context (AtSome qs p) found
  closes_whole qs n p found all f = let P : List ClausePlace → Type 0 = λ z. FoundClose problem context (AtSome z p) found in subst P (take_all n qs all) f

-- ---- the first of some
abbrev key_of : ClosingValue → List ℕ
key_of f = clause_key f.clause f.tuple

pub first_kept : (best : Option ClosingValue) → IsFirstOf best None best
first_kept None = record { one = inl refl; old = tt; new = tt }
first_kept (Some b) = record { one = inl refl; old = (b, refl, precedes_itself (key_of b)); new = tt }

pub first_only : (f : ClosingValue) → IsFirstOf None (Some f) (Some f)
first_only f = record { one = inr refl; old = tt; new = (f, refl, precedes_itself (key_of f)) }

pub first_two : (best next f : ClosingValue) → IsFirstOfTwo best next f → IsFirstOf (Some best) (Some next) (Some f)
first_two best next f (inl h) =
    let same = h.0 in
    let P : ClosingValue → Type 0 = λ z. Precedes (key_of z) (key_of best) in
    let Q : ClosingValue → Type 0 = λ z. Precedes (key_of z) (key_of next) in
    record {
      one = inl (ap (λ (z : ClosingValue). Some z) same);
      old = (f, refl, subst P (sym same) (precedes_itself (key_of best)));
      new = (f, refl, subst Q (sym same) h.1);
    }
first_two best next f (inr h) =
    let same = h.0 in
    let P : ClosingValue → Type 0 = λ z. Precedes (key_of z) (key_of best) in
    let Q : ClosingValue → Type 0 = λ z. Precedes (key_of z) (key_of next) in
    let after : Precedes (key_of next) (key_of best) = elim (precedes_total (key_of best) (key_of next)) as (λ _. Precedes (key_of next) (key_of best)) [ inl before ↦ absurd (h.1 before) | inr later ↦ later ] in
    record {
      one = inr (ap (λ (z : ClosingValue). Some z) same);
      old = (f, refl, subst P (sym same) after);
      new = (f, refl, subst Q (sym same) (precedes_itself (key_of next)));
    }
