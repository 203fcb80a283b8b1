-- What the frames keep as an entry comes or goes.
use Rattle.std.proofs.Common.{◌≡◌, ℕ, zero, suc, ◌<◌, ◌≤◌, ◌⊎◌, inl, inr, List, [], ◌∷◌, ◌++◌, length, take, slice_get, Some, refl, sym, subst, arith}
use Rattle.std.specs.List.{Contains}
use Rattle.std.proofs.lemmas.Bool.{cases_lt}
use Rattle.std.proofs.lemmas.Option.{same_Some, none-some, slice_get_within, slice_get_read}
use Rattle.std.proofs.lemmas.List.{take-append-le, take_all, length_push}
use Rattle.me_terms.specs.Values.{ProblemValue, EntryValue}
use Rattle.me_terms.specs.Context.{Context, add}
use Rattle.me_terms.specs.Close.{HasClose}
use Rattle.me_terms.specs.Next.{IsNext}
use Rattle.me_terms.specs.declared.bounds.Bounds.{Bounds}
use Rattle.me_laws_increments.specs.Tuples.{IsWithin}
use Rattle.me_laws_increments.proofs.Pivots.{exists}
use Rattle.me_laws_increments.proofs.Candidates.{old_productive_unifiers, old_splits}
use Rattle.entry_hiding.proofs.Marks.{push_old, push_end, push_cases}
use Rattle.candidate_keys.specs.Keys.{UnifierKeyValue}
use Rattle.candidate_store.specs.Kept.{IsKeyOf, FrameValue, HasKey, HasPivotBefore, HoldUnifiers, IsFrame, AreFrames}
use Rattle.candidate_store.specs.Searches.{PivotFrom, HaveUnifiersIn}
use Rattle.candidate_store.specs.Firsts.{HaveAll}

-- a number of a list stands at some place
slice_at : (xs : List ℕ) (x : ℕ) → Contains xs x → (i : ℕ) × (slice_get xs i ≡ Some x)
slice_at xs x h = (h.0, slice_get_read xs (length xs) h.0 x refl h.1 (sym h.2))

module _ (problem : ProblemValue) (bounds : Bounds) (context : Context) (e : EntryValue) where
  -- ---- keys
  key_kept : (c : ℕ) (tuple : List ℕ) (key : UnifierKeyValue) → IsWithin context tuple → IsKeyOf problem bounds context c tuple key → IsKeyOf problem bounds (add context e) c tuple key
  key_kept c tuple key within h = record {
    of_clause = h.of_clause;
    of_tuple = h.of_tuple;
    first = λ place size l split. h.first place size l (old_splits problem bounds context (e ∷ []) c place tuple size l within split);
  }

  before_within : (searched : ℕ) (tuple : List ℕ) → searched ≤ length context → HasPivotBefore searched tuple → IsWithin context tuple
  before_within searched tuple le before k has =
      let at = slice_at tuple k has in
      let most = before.2.greatest at.0 k at.1 in
      let lt = before.3 in
      omega (arith, lt, le, most)

  -- the keys of old unifiers are there still
  pub unifiers_kept : (frames : List FrameValue) (searched : ℕ) → searched ≤ length context → HoldUnifiers problem bounds context frames searched → HoldUnifiers problem bounds (add context e) frames searched
  unifiers_kept frames searched le h c tuple clause family productive before =
      let within = before_within searched tuple le before in
      let k = h c tuple clause family (old_productive_unifiers problem context (e ∷ []) c tuple clause family within productive) before in
      (k.0, k.1, k.2, k.3, k.4, key_kept c tuple k.2 within k.5)

module _ (problem : ProblemValue) (bounds : Bounds) (context : Context) where
  pub more_frames : (frames : List FrameValue) (f : FrameValue) (searched : ℕ) → HoldUnifiers problem bounds context frames searched → HoldUnifiers problem bounds context (frames ++ f ∷ []) searched
  more_frames frames f searched h c tuple clause family productive before =
      let k = h c tuple clause family productive before in
      (k.0, k.1, k.2, push_old frames f k.0 k.1 k.3, k.4, k.5)

  -- ---- old and new unifiers are all
  pub all_unifiers : (frames : List FrameValue) (searched : ℕ) (keys : List UnifierKeyValue) → ¬ HasClose problem context → HoldUnifiers problem bounds context frames searched → HaveUnifiersIn problem bounds context (PivotFrom searched) keys → HaveAll problem bounds context frames keys
  all_unifiers frames searched keys no_close old new c [] clause family productive =
      absurd (no_close (c, [], record { clause = clause; family = family; clause_at = productive.clause_at; unifier = productive.unifier; no_remainder = refl }))
  all_unifiers frames searched keys no_close old new c (k ∷ ks) clause family productive =
      let pivot = exists k ks in
      elim (cases_lt pivot.0 searched) as (λ _. HasKey frames (λ key. IsKeyOf problem bounds context c (k ∷ ks) key) ⊎ ((key : UnifierKeyValue) × Contains keys key × IsKeyOf problem bounds context c (k ∷ ks) key)) [
        | inl lt ↦ inl (old c (k ∷ ks) clause family productive (pivot.0, pivot.1, pivot.2, lt))
        | inr le ↦ inr (new c (k ∷ ks) clause family (pivot.0, pivot.1, pivot.2, le) productive)
      ]

  -- a new frame has the keys of the new ones
  pub all_held : (frames : List FrameValue) (f : FrameValue) (searched : ℕ) → HaveAll problem bounds context frames f.unifiers → HoldUnifiers problem bounds context (frames ++ f ∷ []) searched
  all_held frames f searched all c tuple clause family productive before =
      elim (all c tuple clause family productive) as (λ _. HasKey (frames ++ f ∷ []) (λ key. IsKeyOf problem bounds context c tuple key)) [
        | inl k ↦ (k.0, k.1, k.2, push_old frames f k.0 k.1 k.3, k.4, k.5)
        | inr k ↦ (length frames, f, k.0, push_end frames f (length frames) refl, k.1, k.2)
      ]

  -- ---- frames
  pub top_frame : (frames : List FrameValue) (f : FrameValue) (n : ℕ) → AreFrames problem bounds context frames → suc n ≡ length frames → slice_get frames n ≡ Some f → IsFrame problem bounds context frames f
  top_frame frames f n h last at =
      let each = h.each in
      let P : Context × List FrameValue → Type 0 = λ z. IsFrame problem bounds z.0 z.1 f in
      let a = take_all (suc n) context (omega (arith, last, each)) in
      let b = take_all (suc n) frames (omega (arith, last)) in
      subst P (λ i. (a i, b i)) (h.right n f at)

module _ (problem : ProblemValue) (bounds : Bounds) (context : Context) (e : EntryValue) (frames : List FrameValue) (f : FrameValue) where
  front_same : (n : ℕ) → length frames ≡ length context → n < length frames → (take (suc n) (add context e) ≡ take (suc n) context) × (take (suc n) (frames ++ f ∷ []) ≡ take (suc n) frames)
  front_same n each lt = (take-append-le (suc n) context (e ∷ []) (omega (arith, each, lt)), take-append-le (suc n) frames (f ∷ []) (omega (arith, lt)))

  pub frames_more : AreFrames problem bounds context frames → IsFrame problem bounds (add context e) (frames ++ f ∷ []) f → AreFrames problem bounds (add context e) (frames ++ f ∷ [])
  frames_more h new = record {
    each = (let a = length_push frames f in let b = length_push context e in let each = h.each in omega (arith, a, b, each));
    right = λ n g at.
        elim (push_cases frames f n g at) as (λ _. IsFrame problem bounds (take (suc n) (add context e)) (take (suc n) (frames ++ f ∷ [])) g) [
          | inl old ↦
              (let same = front_same n h.each (slice_get_within frames n g old) in
              let a = sym same.0 in
              let b = sym same.1 in
              let P : Context × List FrameValue → Type 0 = λ z. IsFrame problem bounds z.0 z.1 g in
              subst P (λ i. (a i, b i)) (h.right n g old))
          | inr end ↦
              (let a = length_push frames f in
              let b = length_push context e in
              let each = h.each in
              let here = end.0 in
              let x = sym (take_all (suc n) (add context e) (omega (arith, b, each, here))) in
              let y = sym (take_all (suc n) (frames ++ f ∷ []) (omega (arith, a, here))) in
              let z = end.1 in
              let P : Context × List FrameValue × FrameValue → Type 0 = λ w. IsFrame problem bounds w.0 w.1 w.2 in
              subst P (λ i. (x i, y i, z i)) new)
        ];
  }

  pub frames_less : AreFrames problem bounds (add context e) (frames ++ f ∷ []) → AreFrames problem bounds context frames
  frames_less h =
      let a = length_push frames f in
      let b = length_push context e in
      let each = h.each in
      let same_length : length frames ≡ length context = omega (arith, a, b, each) in
      record {
        each = same_length;
        right = λ n g at.
            let same = front_same n same_length (slice_get_within frames n g at) in
            let x = same.0 in
            let y = same.1 in
            let P : Context × List FrameValue → Type 0 = λ z. IsFrame problem bounds z.0 z.1 g in
            subst P (λ i. (x i, y i)) (h.right n g (push_old frames f n g at));
      }

-- the frame of the pseudo-literal alone
first_frame : (problem : ProblemValue) (bounds : Bounds) (e : EntryValue) (f : FrameValue) → IsNext problem bounds (e ∷ []) f.step → f.searched ≡ 0 → (n : ℕ) (g : FrameValue) → slice_get (f ∷ []) n ≡ Some g → IsFrame problem bounds (take (suc n) (e ∷ [])) (take (suc n) (f ∷ [])) g
first_frame problem bounds e f is_next none zero g at =
    let P : FrameValue → Type 0 = λ z. IsFrame problem bounds (e ∷ []) (f ∷ []) z in
    subst P (same_Some f g at) (record {
      next = is_next;
      unifiers = λ c tuple clause family productive before. (let lt = before.3 in absurd (omega (arith, lt, none)));
      within = omega (arith, none);
    })
first_frame problem bounds e f is_next none (suc n) g at = absurd (none-some g at)

pub start_frames : (problem : ProblemValue) (bounds : Bounds) (e : EntryValue) (frames : List FrameValue) (f : FrameValue) → frames ≡ f ∷ [] → IsNext problem bounds (e ∷ []) f.step → f.searched ≡ 0 → AreFrames problem bounds (e ∷ []) frames
start_frames problem bounds e frames f is is_next none =
    let P : List FrameValue → Type 0 = λ z. AreFrames problem bounds (e ∷ []) z in
    subst P (sym is) (record { each = refl; right = first_frame problem bounds e f is_next none })
