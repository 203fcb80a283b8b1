-- What searches for a pivot find, over all places at which it stands.
use Rattle.std.proofs.Common.{◌≡◌, ℕ, zero, suc, ◌+◌, ◌-◌, ◌<◌, inl, inr, Bool, true, List, [], ◌∷◌, ◌++◌, length, get_or, take, slice_get, Option, Some, None, refl, sym, subst, ap, ◌∙◌, arith}
use Rattle.std.specs.List.{Contains}
use Rattle.std.proofs.lemmas.List.{take_more, take_all, length_push}
use Rattle.std.proofs.lemmas.List.Elements.{Contains-get_or}
use Rattle.std.proofs.lemmas.Option.{get_or_from_slice_get, slice_get_within}
use Rattle.me_terms.specs.Values.{ProblemValue, EntryValue}
use Rattle.me_terms.specs.Context.{Context, add}
use Rattle.me_terms.specs.Close.{IsClose, HasClose}
use Rattle.me_terms.specs.Assert.{IsAssert}
use Rattle.me_terms.specs.Order.{assert_key, IsLeastClose}
use Rattle.me_terms.specs.Next.{NextValue, IsNext}
use Rattle.me_terms.specs.declared.bounds.Bounds.{Bounds}
use Rattle.me_laws_increments.specs.Pivots.{IsPivot, HasLaterPivot}
use Rattle.me_laws_increments.proofs.Pivots.{asserts_by_pivot}
use Rattle.me_laws_increments.proofs.Phases.{least_new_close_is_least, no_new_close}
use Rattle.clause_pairs.specs.declared.clause_place.ClausePlace.{ClausePlace}
use Rattle.clause_pairs.specs.Values.{PairsValue}
use Rattle.clause_pairs.specs.Pairs.{ArePairs}
use Rattle.candidate_keys.specs.Keys.{AssertKeyValue, HasCode, UnifierKeyValue}
use Rattle.kept_asserts.specs.Held.{HoldsAsserts}
use Rattle.candidate_store.specs.Kept.{FrameValue, HoldUnifiers, IsFrame, AreFrames, IsSettled}
use Rattle.candidate_store.specs.Searches.{WithPivot, PivotFrom, ClosingValue, FoundClose, Keeps, HoldsAssertsIn, HaveUnifiersIn}
use Rattle.candidate_store.specs.Firsts.{HaveAll}
use Rattle.candidate_store.proofs.Collected.{AtSome, AssertsAtSome}
use Rattle.candidate_store.proofs.Pivotal.{close_place, assert_place, productive_place}
use Rattle.candidate_store.proofs.Framed.{unifiers_kept, more_frames, all_unifiers, all_held, top_frame}

-- an entry of a context
pub entry_at : (whole : Context) (n : ℕ) → n < length whole → (e : EntryValue) × (slice_get whole n ≡ Some e)
entry_at [] n lt = absurd (omega arith)
entry_at (x ∷ xs) zero lt = (x, refl)
entry_at (x ∷ xs) (suc n) lt = entry_at xs n (omega arith)

-- ---- all places of a pivot
module _ (problem : ProblemValue) (context : Context) (v : PairsValue) (pairs : ArePairs problem context v) (p : ℕ) (positive : 0 < p) (qs : List ClausePlace) (at : slice_get v.entered p ≡ Some qs) where
  abbrev Here : ClausePlace → Type 0
  Here q = Contains qs q

  listed : (q : ClausePlace) → Contains (get_or v.entered p []) q → Here q
  listed q h = let P : List ClausePlace → Type 0 = λ z. Contains z q in subst P (get_or_from_slice_get v.entered p qs [] at) h

  close_here : (c : ℕ) (tuple : List ℕ) → WithPivot p c tuple → IsClose problem context c tuple → AtSome qs p c tuple
  close_here c tuple region h =
      let k = close_place problem context v pairs c tuple p region.0 h region.1 positive in
      (k.0, listed k.0 k.1, k.2)

  pub closes_all : (o : Option ClosingValue) → FoundClose problem context (AtSome qs p) o → FoundClose problem context (WithPivot p) o
  closes_all None f = λ c tuple region h. f c tuple (close_here c tuple region h) h
  closes_all (Some best) f = (f.0, λ c tuple region h. f.1 c tuple (close_here c tuple region h) h)

  pub asserts_all : (bounds : Bounds) (keys : List AssertKeyValue) → HoldsAssertsIn problem bounds context (AssertsAtSome qs p) keys → HoldsAssertsIn problem bounds context (λ c place tuple. WithPivot p c tuple) keys
  asserts_all bounds keys f c place tuple e region h =
      let k = assert_place problem context v pairs bounds c place tuple e p region.0 h region.1 positive in
      f c place tuple e (k.0, listed k.0 k.1, k.2) h

  pub unifiers_all : (bounds : Bounds) (keys : List UnifierKeyValue) → HaveUnifiersIn problem bounds context (AtSome qs p) keys → HaveUnifiersIn problem bounds context (WithPivot p) keys
  unifiers_all bounds keys f c tuple clause family region h =
      let k = productive_place problem context v pairs c tuple clause family p region.0 h region.1 positive in
      f c tuple clause family (k.0, listed k.0 k.1, k.2) h

  -- each of the places is one of a clause
  pub place_clause : (q : ClausePlace) → p < length context → Contains qs q → q.clause < length problem.clauses
  place_clause q lt h =
      let e = entry_at context p lt in
      let P : List ClausePlace → Type 0 = λ z. Contains z q in
      let against = (pairs.places p e.0 positive e.1 q).0 (subst P (sym (get_or_from_slice_get v.entered p qs [] at)) h) in
      slice_get_within problem.clauses q.clause against.1.0 against.1.1

  pub place_clause_at : (i : ℕ) (d : ClausePlace) → p < length context → i < length qs → (get_or qs i d).clause < length problem.clauses
  place_clause_at i d within lt = place_clause (get_or qs i d) within (Contains-get_or qs i d lt)

-- ---- a context and its last entry
pub last_entry : (whole : Context) (n : ℕ) → length whole ≡ n + 1 → (e : EntryValue) × (whole ≡ add (take n whole) e)
last_entry [] n h = absurd (omega arith)
last_entry (x ∷ xs) n h =
    (get_or (x ∷ xs) n x, sym (take_all (n + 1) (x ∷ xs) (omega arith)) ∙ take_more (x ∷ xs) n x (omega arith))

module _ (problem : ProblemValue) (whole : Context) (n : ℕ) (long : length whole ≡ n + 1) where
  abbrev without_last : Context
  without_last = take n whole

  abbrev last_one : EntryValue
  last_one = (last_entry whole n long).0

  is_whole : whole ≡ add without_last last_one
  is_whole = (last_entry whole n long).1

  without_long : length without_last ≡ n
  without_long = let a = length_push without_last last_one in let b = ap length is_whole in omega (arith, a, b, long)

  is_last : (tuple : List ℕ) → HasLaterPivot without_last (add without_last last_one) tuple → (i : ℕ) × IsPivot tuple n i
  is_last tuple h =
      let p = h.0 in
      let ge = h.3 in
      let lt = h.4 in
      let a = length_push without_last last_one in
      let b = without_long in
      let same : p ≡ n = omega (arith, ge, lt, a, b) in
      let P : ℕ → Type 0 = λ z. IsPivot tuple z h.1 in
      (h.1, subst P same h.2)

  pub least_close : (best : ClosingValue) → ¬ HasClose problem without_last → FoundClose problem whole (WithPivot n) (Some best) → IsLeastClose problem whole best.clause best.tuple
  least_close best none f =
      let P : Context → Type 0 = λ z. FoundClose problem z (WithPivot n) (Some best) in
      let Q : Context → Type 0 = λ z. IsLeastClose problem z best.clause best.tuple in
      let g = subst P is_whole f in
      subst Q (sym is_whole) (least_new_close_is_least problem without_last (last_one ∷ []) best.clause best.tuple none g.0 (λ c tuple region h. g.1 c tuple (is_last tuple region) h))

  pub no_close : ¬ HasClose problem without_last → FoundClose problem whole (WithPivot n) None → ¬ HasClose problem whole
  no_close none f =
      let P : Context → Type 0 = λ z. FoundClose problem z (WithPivot n) None in
      let Q : Context → Type 0 = λ z. ¬ HasClose problem z in
      let g = subst P is_whole f in
      subst Q (sym is_whole) (no_new_close problem without_last (last_one ∷ []) none (λ c tuple region h. g c tuple (is_last tuple region) h))

  pub asserts_new : (bounds : Bounds) (old new : List AssertKeyValue) → HoldsAsserts problem bounds without_last old → Keeps old new → HoldsAssertsIn problem bounds whole (λ c place tuple. WithPivot n c tuple) new → HoldsAsserts problem bounds whole new
  asserts_new bounds old new f keeps g c place tuple a h =
      let P : Context → Type 0 = λ z. IsAssert problem bounds z c place tuple a in
      elim (asserts_by_pivot problem bounds without_last (last_one ∷ []) c place tuple a (subst P is_whole h)) as (λ _. HasCode new (assert_key c place tuple a)) [
        | inl before ↦ (let k = f c place tuple a before in (k.0, keeps k.0 k.1, k.2))
        | inr new_one ↦ g c place tuple a (is_last tuple new_one) h
      ]

  -- ---- frames
  module _ (bounds : Bounds) (frames : List FrameValue) (is_n : n ≡ length frames) (some : 0 < length frames) (h : AreFrames problem bounds without_last frames) (last : FrameValue) (at : slice_get frames (length frames - 1) ≡ Some last) where
    top_is : IsFrame problem bounds without_last frames last
    top_is = top_frame problem bounds without_last frames last (length frames - 1) h (omega (arith, some)) at

    pub top_next : IsNext problem bounds without_last last.step
    top_next = top_is.next

    pub held_still : HoldUnifiers problem bounds whole frames last.searched
    held_still =
        let P : Context → Type 0 = λ z. HoldUnifiers problem bounds z frames last.searched in
        subst P (sym is_whole) (unifiers_kept problem bounds without_last last_one frames last.searched top_is.within top_is.unifiers)

    same_frame : (step : NextValue) → IsNext problem bounds whole step → IsFrame problem bounds whole (frames ++ record { step = step; unifiers = []; searched = last.searched } ∷ []) (record { step = step; unifiers = []; searched = last.searched })
    same_frame step is_next = record {
      next = is_next;
      unifiers = more_frames problem bounds whole frames (record { step = step; unifiers = []; searched = last.searched }) last.searched held_still;
      within = (let le = top_is.within in let a = without_long in omega (arith, le, a, long));
    }

    pub frame_again : (f : FrameValue) (step : NextValue) → f ≡ record { step = step; unifiers = []; searched = last.searched } → IsNext problem bounds whole step → IsFrame problem bounds whole (frames ++ f ∷ []) f
    frame_again f step is is_next =
        let P : FrameValue → Type 0 = λ z. IsFrame problem bounds whole (frames ++ z ∷ []) z in
        subst P (sym is) (same_frame step is_next)

    pub all_found : ¬ HasClose problem whole → (keys : List UnifierKeyValue) → HaveUnifiersIn problem bounds whole (PivotFrom last.searched) keys → HaveAll problem bounds whole frames keys
    all_found none keys new_ones = all_unifiers problem bounds whole frames last.searched keys none held_still new_ones

    pub split_framed : ¬ HasClose problem whole → (f : FrameValue) → IsNext problem bounds whole f.step → HaveUnifiersIn problem bounds whole (PivotFrom last.searched) f.unifiers → f.searched ≡ length whole → IsFrame problem bounds whole (frames ++ f ∷ []) f
    split_framed none f is_next new_ones all_searched = record {
      next = is_next;
      unifiers = all_held problem bounds whole frames f f.searched (all_found none f.unifiers new_ones);
      within = omega (arith, all_searched);
    }

-- ---- settled steps
pub asserts_settled : (problem : ProblemValue) (bounds : Bounds) (context : Context) (is_fresh : Bool) (keys : List AssertKeyValue) → IsSettled problem bounds context is_fresh → (is_fresh ≡ true → HoldsAsserts problem bounds context keys) → HoldsAsserts problem bounds context keys
asserts_settled problem bounds context is_fresh keys settled f c place tuple e h =
    elim settled.1 as (λ _. HasCode keys (assert_key c place tuple e)) [
      | inl fresh ↦ f fresh c place tuple e h
      | inr none ↦ absurd (none (c, place, tuple, e, h))
    ]
