-- The least of some keys, as they are looked at one by one.
use Rattle.std.proofs.Common.{◌≡◌, ℕ, ◌+◌, ◌<◌, ◌≤◌, ◌⊎◌, inl, inr, List, [], ◌∷◌, length, get_or, slice_get, Some, true, false, eqb, refl, zero, suc, sym, subst, ◌∙◌, arith}
use Rattle.std.proofs.lemmas.Bool.{cases_lt}
use Rattle.std.proofs.lemmas.Option.{same_Some, slice_get_within, slice_get_read}
use Rattle.me_terms.specs.Order.{Precedes}
use Rattle.me_laws_existence.proofs.Best.{precedes_itself, precedes_transitive, precedes_total}
use Rattle.candidate_keys.specs.Keys.{AssertKeyValue, assert_code, IsLeastAt, IsEarlier}

pub some_of : (n : ℕ) → eqb n 0 ≡ false → 0 < n
some_of zero h = let other : true ≡ false = h in cc
some_of (suc n) h = omega arith

-- The key at the place precedes the first n.
abbrev pub IsLeastOf : List AssertKeyValue → ℕ → ℕ → Type 0
IsLeastOf keys least n =
    (i : ℕ) (a b : AssertKeyValue) → i < n → slice_get keys least ≡ Some a → slice_get keys i ≡ Some b → Precedes (assert_code a) (assert_code b)

at_below : {A : Type 0} (xs : List A) (k : ℕ) → k < length xs → (a : A) × (slice_get xs k ≡ Some a)
at_below [] k lt = absurd (omega arith)
at_below (x ∷ xs) zero lt = (x, refl)
at_below (x ∷ xs) (suc k) lt = at_below xs k (omega arith)

module _ (keys : List AssertKeyValue) where
  number_cases : (i n : ℕ) → i < n + 1 → (i < n) ⊎ (i ≡ n)
  number_cases i n h = elim (cases_lt i n) as (λ _. (i < n) ⊎ (i ≡ n)) [ inl l ↦ inl l | inr g ↦ inr (omega arith) ]

  at_one : (i j : ℕ) (a b : AssertKeyValue) → i ≡ j → slice_get keys i ≡ Some a → slice_get keys j ≡ Some b → a ≡ b
  at_one i j a b e f g = let P : ℕ → Type 0 = λ z. slice_get keys z ≡ Some a in same_Some a b (sym (subst P e f) ∙ g)

  pub least_start : IsLeastOf keys 0 1
  least_start i a b lt f g =
      let e : 0 ≡ i = omega arith in
      let P : AssertKeyValue → Type 0 = λ z. Precedes (assert_code a) (assert_code z) in
      subst P (at_one 0 i a b e f g) (precedes_itself (assert_code a))

  module _ (least n : ℕ) (x y : AssertKeyValue) (at : slice_get keys least ≡ Some x) (next : slice_get keys n ≡ Some y) (h : IsLeastOf keys least n) where
    pub least_kept : Precedes (assert_code x) (assert_code y) → IsLeastOf keys least (n + 1)
    least_kept first i a b lt f g =
        elim (number_cases i n lt) as (λ _. Precedes (assert_code a) (assert_code b)) [
          | inl old ↦ h i a b old f g
          | inr new ↦
              (let P : AssertKeyValue × AssertKeyValue → Type 0 = λ z. Precedes (assert_code z.0) (assert_code z.1) in
              let left = same_Some x a (sym at ∙ f) in
              let right = sym (at_one i n b y new g next) in
              subst P (λ j. (left j, right j)) first)
        ]

    pub least_moved : ¬ Precedes (assert_code x) (assert_code y) → IsLeastOf keys n (n + 1)
    least_moved later i a b lt f g =
        let same = same_Some y a (sym next ∙ f) in
        let before : Precedes (assert_code y) (assert_code x) = elim (precedes_total (assert_code x) (assert_code y)) as (λ _. Precedes (assert_code y) (assert_code x)) [ inl first ↦ absurd (later first) | inr second ↦ second ] in
        let P : AssertKeyValue → Type 0 = λ z. Precedes (assert_code z) (assert_code b) in
        elim (number_cases i n lt) as (λ _. Precedes (assert_code a) (assert_code b)) [
          | inl old ↦ subst P same (precedes_transitive (assert_code y) (assert_code x) (assert_code b) before (h i x b old at g))
          | inr new ↦
              (let Q : AssertKeyValue → Type 0 = λ z. Precedes (assert_code a) (assert_code z) in
              subst Q (at_one n i a b (sym new) f g) (precedes_itself (assert_code a)))
        ]

  -- the one of two that comes first is the least of one more
  pub least_earlier : (least n found : ℕ) → least < length keys → n < length keys → IsEarlier keys least n found → IsLeastOf keys least n → (found < length keys) × IsLeastOf keys found (n + 1)
  least_earlier least n found lt more earlier h =
      let x = at_below keys least lt in
      let y = at_below keys n more in
      let P : ℕ → Type 0 = λ z. (z < length keys) × IsLeastOf keys z (n + 1) in
      elim (earlier x.0 y.0 x.1 y.1) as (λ _. P found) [
        | inl old ↦ subst P (sym old.0) (lt, least_kept least n x.0 y.0 x.1 y.1 h old.1)
        | inr new ↦ subst P (sym new.0) (more, least_moved least n x.0 y.0 x.1 y.1 h new.1)
      ]

  pub least_all : (least n : ℕ) → length keys ≤ n → IsLeastOf keys least n → IsLeastAt keys least
  least_all least n all h i a b f g = h i a b (let lt = slice_get_within keys i b g in omega (arith, lt, all)) f g

at_by : {A : Type 0} (xs : List A) (i : ℕ) (a x : A) → i < length xs → x ≡ get_or xs i x → slice_get xs i ≡ Some a → x ≡ a
at_by xs i a x lt read at = same_Some x a (sym (slice_get_read xs (length xs) i x refl lt read) ∙ at)

module _ (keys : List AssertKeyValue) (i k : ℕ) (x y : AssertKeyValue) (lt : i < length keys) (more : k < length keys) (first : x ≡ get_or keys i x) (second : y ≡ get_or keys k y) where
  pub earlier_first : Precedes (assert_code x) (assert_code y) → IsEarlier keys i k i
  earlier_first h a b f g =
      let p = at_by keys i a x lt first f in
      let q = at_by keys k b y more second g in
      let P : AssertKeyValue × AssertKeyValue → Type 0 = λ z. Precedes (assert_code z.0) (assert_code z.1) in
      inl (refl, subst P (λ j. (p j, q j)) h)

  pub earlier_second : ¬ Precedes (assert_code x) (assert_code y) → IsEarlier keys i k k
  earlier_second h a b f g =
      let p = at_by keys i a x lt first f in
      let q = at_by keys k b y more second g in
      let P : AssertKeyValue × AssertKeyValue → Type 0 = λ z. ¬ Precedes (assert_code z.0) (assert_code z.1) in
      inr (refl, subst P (λ j. (p j, q j)) h)
