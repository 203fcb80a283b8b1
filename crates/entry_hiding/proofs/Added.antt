-- What is hidden, and by which entry first, after an entry is added.
use Rattle.std.proofs.Common.{◌≡◌, ℕ, ◌<◌, ◌≤◌, ◌⊎◌, inl, inr, List, [], ◌∷◌, ◌++◌, length, length-append, Option, Some, None, slice_get, refl, sym, ◌∙◌, subst, arith}
use Rattle.std.proofs.lemmas.Option.{slice_get_within}
use Rattle.me_terms.specs.Values.{EntryValue}
use Rattle.me_terms.specs.Context.{Context, StandsAt, Covers, Hides, IsHidden, IsVisible, add}
use Rattle.std.proofs.lemmas.List.{map_push}
use Rattle.me_terms.specs.Sequences.{SequenceValue}
use Rattle.entry_hiding.specs.Views.{items_of}
use Rattle.entry_hiding.specs.Hiding.{IsMember, IsNewlyHidden, with_marks, IsFirstHider, AreHidden}
use Rattle.entry_hiding.proofs.Marks.{member_or_not, length_marked, marked_member, marked_other, push_old, push_end, push_cases, at_below}

pub lift : (context : Context) (e : EntryValue) (k : ℕ) (f : EntryValue) (j : ℕ) (later : EntryValue) → Hides context k f j later → Hides (add context e) k f j later
lift context e k f j later h = record {
  is_later = h.is_later;
  stands = push_old context e j later h.stands;
  covers = h.covers;
}

pub lower : (context : Context) (e : EntryValue) (k : ℕ) (f : EntryValue) (j : ℕ) (later : EntryValue) → Hides (add context e) k f j later → StandsAt context j later → Hides context k f j later
lower context e k f j later h stands = record {
  is_later = h.is_later;
  stands = stands;
  covers = h.covers;
}

covers_of : (context : Context) (k : ℕ) (f : EntryValue) (j : ℕ) (later e : EntryValue) → Hides context k f j later → e ≡ later → Covers e f
covers_of context k f j later e h same =
    let P : EntryValue → Type 0 = λ x. Covers x f in
    subst P (sym same) h.covers

module _ (context : Context) (hidden_by : List (Option ℕ)) (hides : List (List ℕ)) (e : EntryValue) (ks : List ℕ) (h : AreHidden context hidden_by hides) (only_these : (k : ℕ) → IsMember k ks → IsNewlyHidden context hidden_by e k) (all_these : (k : ℕ) → IsNewlyHidden context hidden_by e k → IsMember k ks) where
  abbrev n : ℕ
  n = length context

  abbrev marks : List (Option ℕ)
  marks = with_marks hidden_by ks (Some n)

  -- the ways in which a position has its mark
  abbrev Ways : ℕ → Option ℕ → Type 0
  Ways k v = (IsMember k ks × (v ≡ Some n)) ⊎ (((¬ IsMember k ks) × (slice_get hidden_by k ≡ Some v)) ⊎ ((k ≡ n) × (v ≡ None)))

  member_within : (k : ℕ) → IsMember k ks → k < length hidden_by
  member_within k m = slice_get_within hidden_by k None (only_these k m).2

  ways : (k : ℕ) (v : Option ℕ) → slice_get (marks ++ None ∷ []) k ≡ Some v → Ways k v
  ways k v g =
      elim (push_cases marks None k v g) as (λ _. Ways k v) [
        | inl old ↦ elim (member_or_not k ks) as (λ _. Ways k v) [
          | inl m ↦ let is : slice_get marks k ≡ Some (Some n) = marked_member hidden_by ks (Some n) k m (member_within k m) in inl (m, cc)
          | inr apart ↦ inr (inl (apart, sym (marked_other hidden_by ks (Some n) k apart) ∙ old))
        ]
        | inr new ↦ inr (inr (omega (arith, new.0, length_marked hidden_by ks (Some n), h.each_by), sym new.1))
      ]

  stands_old : (k : ℕ) (f : EntryValue) → StandsAt (add context e) k f → k < n → StandsAt context k f
  stands_old k f stands lt =
      elim (push_cases context e k f stands) as (λ _. StandsAt context k f) [ inl old ↦ old | inr new ↦ absurd (omega (arith, new.0)) ]

  old_within : (k : ℕ) (v : Option ℕ) → slice_get hidden_by k ≡ Some v → k < n
  old_within k v g = omega (arith, slice_get_within hidden_by k v g, h.each_by)

  shown_old : (k : ℕ) (f : EntryValue) → StandsAt context k f → ¬ IsMember k ks → slice_get hidden_by k ≡ Some None → ¬ IsHidden (add context e) k f
  shown_old k f stands apart g hidden =
      elim (push_cases context e hidden.0 hidden.1 hidden.2.stands) as (λ _. ⊥) [
        | inl old ↦ h.shown k f stands g (hidden.0, hidden.1, lower context e k f hidden.0 hidden.1 hidden.2 old)
        | inr new ↦ apart (all_these k (f, stands, g, covers_of (add context e) k f hidden.0 hidden.1 e hidden.2 new.1))
      ]

  shown_end : (k : ℕ) (f : EntryValue) → k ≡ n → ¬ IsHidden (add context e) k f
  shown_end k f end hidden =
      omega (arith, end, hidden.2.is_later, slice_get_within (add context e) hidden.0 hidden.1 hidden.2.stands, length-append context (e ∷ []))

  shown_now : (k : ℕ) (f : EntryValue) → StandsAt (add context e) k f → slice_get (marks ++ None ∷ []) k ≡ Some None → ¬ IsHidden (add context e) k f
  shown_now k f stands g hidden =
      elim (ways k None g) as (λ _. ⊥) [
        | inl m ↦ let apart : None ≡ Some n = m.1 in cc
        | inr rest ↦ elim rest as (λ _. ⊥) [
          | inl old ↦ shown_old k f (stands_old k f stands (old_within k None old.1)) old.0 old.1 hidden
          | inr end ↦ shown_end k f end.0 hidden
        ]
      ]

  first_now : (k : ℕ) (f : EntryValue) → StandsAt context k f → IsMember k ks → IsFirstHider (add context e) k f n
  first_now k f stands m =
      let new = only_these k m in
      let same : new.0 ≡ f = cc (new.1, stands) in
      let covers : Covers e f = let P : EntryValue → Type 0 = λ x. Covers e x in subst P same new.3 in
      record {
        hides = (
          e,
          record {
            is_later = slice_get_within context k f stands;
            stands = push_end context e n refl;
            covers = covers;
          },
        );
        first = λ i later hider. elim (push_cases context e i later hider.stands) as (λ _. n ≤ i) [
          | inl old ↦ absurd (h.shown k f stands new.2 (i, later, lower context e k f i later hider old))
          | inr end ↦ omega (arith, end.0)
        ];
      }

  first_old : (k j : ℕ) (f : EntryValue) → IsFirstHider context k f j → IsFirstHider (add context e) k f j
  first_old k j f was = record {
    hides = (was.hides.0, lift context e k f j was.hides.0 was.hides.1);
    first = λ i later hider. elim (push_cases context e i later hider.stands) as (λ _. j ≤ i) [
      | inl old ↦ was.first i later (lower context e k f i later hider old)
      | inr end ↦ omega (arith, end.0, slice_get_within context j was.hides.0 was.hides.1.stands)
    ];
  }

  hidden_now : (k j : ℕ) (f : EntryValue) → StandsAt (add context e) k f → slice_get (marks ++ None ∷ []) k ≡ Some (Some j) → IsFirstHider (add context e) k f j
  hidden_now k j f stands g =
      elim (ways k (Some j) g) as (λ _. IsFirstHider (add context e) k f j) [
        | inl m ↦
            let same : n ≡ j = let is : Some j ≡ Some n = m.1 in cc in
            let P : ℕ → Type 0 = λ x. IsFirstHider (add context e) k f x in
            subst P same (first_now k f (stands_old k f stands (omega (arith, member_within k m.0, h.each_by))) m.0)
        | inr rest ↦ elim rest as (λ _. IsFirstHider (add context e) k f j) [
          | inl old ↦ first_old k j f (h.hidden k j f (stands_old k f stands (old_within k (Some j) old.1)) old.1)
          | inr end ↦ let apart : Some j ≡ None = end.1 in cc
        ]
      ]

  hider_within : (k j : ℕ) → slice_get hidden_by k ≡ Some (Some j) → j < n
  hider_within k j g =
      let f = at_below context k (old_within k (Some j) g) in
      let first = h.hidden k j f.0 f.1 g in
      slice_get_within context j first.hides.0 first.hides.1.stands

  listed_now : (j k : ℕ) (l : List ℕ) → slice_get (hides ++ ks ∷ []) j ≡ Some l → slice_get (marks ++ None ∷ []) k ≡ Some (Some j) → IsMember k l
  listed_now j k l at g =
      elim (ways k (Some j) g) as (λ _. IsMember k l) [
        | inl m ↦
            let same : n ≡ j = let is : Some j ≡ Some n = m.1 in cc in
            elim (push_cases hides ks j l at) as (λ _. IsMember k l) [
              | inl old ↦ absurd (omega (arith, same, slice_get_within hides j l old, h.each_list))
              | inr end ↦ subst (λ x. IsMember k x) end.1 m.0
            ]
        | inr rest ↦ elim rest as (λ _. IsMember k l) [
          | inl old ↦ elim (push_cases hides ks j l at) as (λ _. IsMember k l) [
            | inl was ↦ h.listed j k l was old.1
            | inr end ↦ absurd (omega (arith, end.0, hider_within k j old.1, h.each_list))
          ]
          | inr end ↦ let apart : Some j ≡ None = end.1 in cc
        ]
      ]

  only_now : (j k : ℕ) (l : List ℕ) → slice_get (hides ++ ks ∷ []) j ≡ Some l → IsMember k l → slice_get (marks ++ None ∷ []) k ≡ Some (Some j)
  only_now j k l at m =
      elim (push_cases hides ks j l at) as (λ _. slice_get (marks ++ None ∷ []) k ≡ Some (Some j)) [
        | inl was ↦
            let old : slice_get hidden_by k ≡ Some (Some j) = h.only j k l was m in
            let apart : ¬ IsMember k ks = λ here. let free : slice_get hidden_by k ≡ Some None = (only_these k here).2 in cc in
            push_old marks None k (Some j) (marked_other hidden_by ks (Some n) k apart ∙ old)
        | inr end ↦
            let here : IsMember k ks = subst (λ x. IsMember k x) (sym end.1) m in
            let same : n ≡ j = omega (arith, end.0, h.each_list) in
            let P : ℕ → Type 0 = λ x. slice_get (marks ++ None ∷ []) k ≡ Some (Some x) in
            subst P same (push_old marks None k (Some n) (marked_member hidden_by ks (Some n) k here (member_within k here)))
      ]

  pub add_hidden : AreHidden (add context e) (marks ++ None ∷ []) (hides ++ ks ∷ [])
  add_hidden = record {
    each_by = omega (arith, length-append marks (None ∷ []), length_marked hidden_by ks (Some n), length-append context (e ∷ []), h.each_by);
    each_list = omega (arith, length-append hides (ks ∷ []), length-append context (e ∷ []), h.each_list);
    shown = shown_now;
    hidden = hidden_now;
    listed = listed_now;
    only = only_now;
  }

module _ (context : Context) (hidden_by : List (Option ℕ)) (hides : List (List ℕ)) (h : AreHidden context hidden_by hides) where
  by_mark : (k : ℕ) → ((e : EntryValue) × IsVisible context k e) → (b : Option ℕ) → slice_get hidden_by k ≡ Some b → slice_get hidden_by k ≡ Some None
  by_mark k v None g = g
  by_mark k v (Some j) g =
      let first = h.hidden k j v.0 v.1.0 g in absurd (v.1.1 (j, first.hides.0, first.hides.1))

  pub is_visible : (k : ℕ) → slice_get hidden_by k ≡ Some None → (e : EntryValue) × IsVisible context k e
  is_visible k g =
      let e = at_below context k (omega (arith, slice_get_within hidden_by k None g, h.each_by)) in (e.0, (e.1, h.shown k e.0 e.1 g))

  pub visible_is : (k : ℕ) → ((e : EntryValue) × IsVisible context k e) → slice_get hidden_by k ≡ Some None
  visible_is k v =
      let b = at_below hidden_by k (omega (arith, slice_get_within context k v.0 v.1.0, h.each_by)) in by_mark k v b.0 b.1

module _ (context : Context) (by marks by_after : List (Option ℕ)) (hides hides_after : List (SequenceValue ℕ)) (e : EntryValue) (places : SequenceValue ℕ) where
  pub added : AreHidden context by (items_of hides) →
      ((k : ℕ) → IsMember k places.items → IsNewlyHidden context by e k) → ((k : ℕ) → IsNewlyHidden context by e k → IsMember k places.items) →
      marks ≡ with_marks by places.items (Some (length context)) → by_after ≡ marks ++ None ∷ [] → hides_after ≡ hides ++ places ∷ [] →
      AreHidden (add context e) by_after (items_of hides_after)
  added h only_these all_these is_marks is_by is_hides =
      let hidden = add_hidden context by (items_of hides) e places.items h only_these all_these in
      let lists : items_of hides_after ≡ items_of hides ++ places.items ∷ [] = rw is_hides (map_push (λ l. l.items) hides places) in
      rw (is_by, is_marks, lists) hidden
