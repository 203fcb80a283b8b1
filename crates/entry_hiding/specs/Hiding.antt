-- What is kept of a context: by which later entry each entry is hidden first, and which ones each was the first to hide.
use Rattle.std.specs.Prelude.{◌≡◌, ℕ, ◌<◌, ◌≤◌, ◌⊎◌, List, [], ◌∷◌, length, slice_get, Option, Some, None}
use Rattle.std.specs.Prelude.{slice_set}
use Rattle.me_terms.specs.Values.{EntryValue}
use Rattle.entry_hiding.specs.Values.{HidingValue}
use Rattle.me_terms.specs.Context.{Context, StandsAt, Covers, Hides, IsHidden}

-- The list has the number.
abbrev pub IsMember : ℕ → List ℕ → Type 0
IsMember k [] = ⊥
IsMember k (x ∷ xs) = (x ≡ k) ⊎ IsMember k xs

-- Every number of the list is below n.
abbrev pub AreBelow : ℕ → List ℕ → Type 0
AreBelow n [] = Unit {0}
AreBelow n (x ∷ xs) = (x < n) × AreBelow n xs

-- At position k stands an entry that nothing hides yet and that the later one hides.
abbrev pub IsNewlyHidden : Context → List (Option ℕ) → EntryValue → ℕ → Type 0
IsNewlyHidden context hidden_by later k =
    (e : EntryValue) × StandsAt context k e × (slice_get hidden_by k ≡ Some None) × Covers later e

-- The list with the value at each of these places.
abbrev pub with_marks : List (Option ℕ) → List ℕ → Option ℕ → List (Option ℕ)
with_marks xs [] value = xs
with_marks xs (k ∷ ks) value = with_marks (slice_set xs k value) ks value

-- Entry e at position k is hidden by the one at position j, and by none between.
pub record IsFirstHider (context : Context) (k : ℕ) (e : EntryValue) (j : ℕ) : Type 0 where
  pub hides : (later : EntryValue) × Hides context k e j later
  pub first : (i : ℕ) (f : EntryValue) → Hides context k e i f → j ≤ i

-- Each entry has the position by which it is hidden first, if it is hidden, and the list of those that it hides first.
pub record AreHidden (context : Context) (hidden_by : List (Option ℕ)) (hides : List (List ℕ)) : Type 0 where
  pub each_by : length hidden_by ≡ length context
  pub each_list : length hides ≡ length context
  pub shown : (k : ℕ) (e : EntryValue) → StandsAt context k e → slice_get hidden_by k ≡ Some None → ¬ IsHidden context k e
  pub hidden : (k j : ℕ) (e : EntryValue) → StandsAt context k e → slice_get hidden_by k ≡ Some (Some j) → IsFirstHider context k e j
  pub listed : (j k : ℕ) (ks : List ℕ) → slice_get hides j ≡ Some ks → slice_get hidden_by k ≡ Some (Some j) → IsMember k ks
  pub only : (j k : ℕ) (ks : List ℕ) → slice_get hides j ≡ Some ks → IsMember k ks → slice_get hidden_by k ≡ Some (Some j)

-- What is kept is that of the context.
abbrev pub IsHidingOf : Context → HidingValue → Type 0
IsHidingOf context h = AreHidden context h.hidden_by h.hides
