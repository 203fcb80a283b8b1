-- What is hidden, and by which entry first, after the last entry is taken off.
use Rattle.std.proofs.Common.{◌≡◌, ℕ, ◌<◌, ◌⊎◌, inl, inr, List, [], ◌∷◌, ◌++◌, length, length-append, Option, Some, None, slice_get, sym, ◌∙◌, subst, arith}
use Rattle.std.proofs.lemmas.Option.{slice_get_within}
use Rattle.me_terms.specs.Values.{EntryValue}
use Rattle.me_terms.specs.Context.{Context, StandsAt, IsHidden, add}
use Rattle.entry_hiding.specs.Hiding.{IsMember, AreBelow, with_marks, IsFirstHider, AreHidden}
use Rattle.entry_hiding.proofs.Marks.{member_or_not, all_below, length_marked, marked_member, marked_other, push_old, push_end, push_cases, at_below}
use Rattle.std.proofs.lemmas.List.{map_push}
use Rattle.me_terms.specs.Sequences.{SequenceValue}
use Rattle.entry_hiding.specs.Views.{items_of}
use Rattle.entry_hiding.proofs.Added.{lift, lower}

module _ (context : Context) (e : EntryValue) (hidden_by : List (Option ℕ)) (b : Option ℕ) (hides : List (List ℕ)) (ks : List ℕ) (h : AreHidden (add context e) (hidden_by ++ b ∷ []) (hides ++ ks ∷ [])) where
  abbrev n : ℕ
  n = length context

  as_many : length hidden_by ≡ n
  as_many = omega (arith, h.each_by, length-append hidden_by (b ∷ []), length-append context (e ∷ []))

  lists : n ≡ length hides
  lists = omega (arith, h.each_list, length-append hides (ks ∷ []), length-append context (e ∷ []))

  by_last : (k : ℕ) → IsMember k ks → slice_get (hidden_by ++ b ∷ []) k ≡ Some (Some n)
  by_last k m = h.only n k ks (push_end hides ks n lists) m

  hider : (k j : ℕ) → slice_get (hidden_by ++ b ∷ []) k ≡ Some (Some j) → k < j
  hider k j g =
      let f = at_below (add context e) k (omega (arith, slice_get_within (hidden_by ++ b ∷ []) k (Some j) g, h.each_by)) in
      (h.hidden k j f.0 f.1 g).hides.1.is_later

  pub popped_below : AreBelow (length hidden_by) ks
  popped_below = all_below (length hidden_by) ks (λ k m. omega (arith, hider k n (by_last k m), as_many))

  abbrev Ways : ℕ → Option ℕ → Type 0
  Ways k v = (IsMember k ks × (v ≡ None)) ⊎ ((¬ IsMember k ks) × (slice_get (hidden_by ++ b ∷ []) k ≡ Some v))

  ways : (k : ℕ) (v : Option ℕ) → slice_get (with_marks hidden_by ks None) k ≡ Some v → Ways k v
  ways k v g =
      elim (member_or_not k ks) as (λ _. Ways k v) [
        | inl m ↦
            let is : slice_get (with_marks hidden_by ks None) k ≡ Some None = marked_member hidden_by ks None k m (omega (arith, hider k n (by_last k m), as_many)) in
            inl (m, cc)
        | inr apart ↦ inr (apart, push_old hidden_by b k v (sym (marked_other hidden_by ks None k apart) ∙ g))
      ]

  shown_now : (k : ℕ) (f : EntryValue) → StandsAt context k f → slice_get (with_marks hidden_by ks None) k ≡ Some None → ¬ IsHidden context k f
  shown_now k f stands g hidden =
      let above = lift context e k f hidden.0 hidden.1 hidden.2 in
      elim (ways k None g) as (λ _. ⊥) [
        | inl m ↦ omega (arith, (h.hidden k n f (push_old context e k f stands) (by_last k m.0)).first hidden.0 hidden.1 above, slice_get_within context hidden.0 hidden.1 hidden.2.stands)
        | inr old ↦ h.shown k f (push_old context e k f stands) old.1 (hidden.0, hidden.1, above)
      ]

  hidden_now : (k j : ℕ) (f : EntryValue) → StandsAt context k f → slice_get (with_marks hidden_by ks None) k ≡ Some (Some j) → IsFirstHider context k f j
  hidden_now k j f stands g =
      elim (ways k (Some j) g) as (λ _. IsFirstHider context k f j) [
        | inl m ↦ let apart : Some j ≡ None = m.1 in cc
        | inr old ↦
            let was = h.hidden k j f (push_old context e k f stands) old.1 in
            elim (push_cases context e j was.hides.0 was.hides.1.stands) as (λ _. IsFirstHider context k f j) [
              | inl there ↦ record {
                hides = (was.hides.0, lower context e k f j was.hides.0 was.hides.1 there);
                first = λ i later by. was.first i later (lift context e k f i later by);
              }
              | inr end ↦ absurd (old.0 (h.listed j k ks (push_end hides ks j (end.0 ∙ lists)) old.1))
            ]
      ]

  listed_now : (j k : ℕ) (l : List ℕ) → slice_get hides j ≡ Some l → slice_get (with_marks hidden_by ks None) k ≡ Some (Some j) → IsMember k l
  listed_now j k l at g =
      elim (ways k (Some j) g) as (λ _. IsMember k l) [
        | inl m ↦ let apart : Some j ≡ None = m.1 in cc
        | inr old ↦ h.listed j k l (push_old hides ks j l at) old.1
      ]

  only_now : (j k : ℕ) (l : List ℕ) → slice_get hides j ≡ Some l → IsMember k l → slice_get (with_marks hidden_by ks None) k ≡ Some (Some j)
  only_now j k l at m =
      let was : slice_get (hidden_by ++ b ∷ []) k ≡ Some (Some j) = h.only j k l (push_old hides ks j l at) m in
      let early : j < n = omega (arith, slice_get_within hides j l at, lists) in
      let apart : ¬ IsMember k ks = λ here. (let last : slice_get (hidden_by ++ b ∷ []) k ≡ Some (Some n) = by_last k here in let same : j ≡ n = cc in omega (arith, same, early)) in
      elim (push_cases hidden_by b k (Some j) was) as (λ _. slice_get (with_marks hidden_by ks None) k ≡ Some (Some j)) [
        | inl old ↦ marked_other hidden_by ks None k apart ∙ old
        | inr end ↦ absurd (omega (arith, end.0, as_many, hider k j was, early))
      ]

  pub pop_hidden : AreHidden context (with_marks hidden_by ks None) hides
  pop_hidden = record {
    each_by = length_marked hidden_by ks None ∙ as_many;
    each_list = sym lists;
    shown = shown_now;
    hidden = hidden_now;
    listed = listed_now;
    only = only_now;
  }

module _ (context : Context) (by_before by : List (Option ℕ)) (hides_before hides : List (SequenceValue ℕ)) (e : EntryValue) (b : Option ℕ) (places : SequenceValue ℕ) (h : AreHidden (add context e) by_before (items_of hides_before)) (is_by : by_before ≡ by ++ b ∷ []) (is_hides : hides_before ≡ hides ++ places ∷ []) where
  same_lists : items_of hides_before ≡ items_of hides ++ places.items ∷ []
  same_lists = rw is_hides (map_push (λ l. l.items) hides places)

  whole : AreHidden (add context e) (by ++ b ∷ []) (items_of hides ++ places.items ∷ [])
  whole =
      let Q : List (Option ℕ) → Type 0 = λ x. AreHidden (add context e) x (items_of hides_before) in
      let R : List (List ℕ) → Type 0 = λ x. AreHidden (add context e) (by ++ b ∷ []) x in
      subst R same_lists (subst Q is_by h)

  pub may_mark : AreBelow (length by) places.items
  may_mark = popped_below context e by b (items_of hides) places.items whole

  pub popped : (marks : List (Option ℕ)) → marks ≡ with_marks by places.items None → AreHidden context marks (items_of hides)
  popped marks is_marks = rw is_marks (pop_hidden context e by b (items_of hides) places.items whole)
