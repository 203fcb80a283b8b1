-- The order of lists of numbers, as two lists are compared number by number.
use Rattle.std.proofs.Common.{◌≡◌, ℕ, ◌+◌, ◌<◌, ◌≤◌, ◌↔◌, inl, inr, List, ◌∷◌, length, get_or, drop, slice_get, Some, None, sym, subst, ◌∙◌, arith}
use Rattle.std.proofs.lemmas.Bool.{cases_lt}
use Rattle.std.proofs.lemmas.Option.{none-some, slice_get_within, slice_get-get_or, get_or_from_slice_get}
use Rattle.std.proofs.lemmas.List.{drop_more, drop_all}
use Rattle.me_terms.specs.Order.{Precedes}

module _ (xs ys : List ℕ) (k : ℕ) where
  -- what is left of the two lists
  abbrev Left : Type 0
  Left = Precedes (drop k xs) (drop k ys)

  pub left_end : length xs ≤ k → Left
  left_end end = let P : List ℕ → Type 0 = λ z. Precedes z (drop k ys) in subst P (sym (drop_all k xs end)) tt

  module _ (more : k < length xs) where
    abbrev first : ℕ
    first = get_or xs k 0

    pub left_short : length ys ≤ k → ¬ Left
    left_short short h =
        let P : List ℕ × List ℕ → Type 0 = λ z. Precedes z.0 z.1 in
        let a = drop_more xs k 0 more in
        let b = drop_all k ys short in
        absurd (subst P (λ i. (a i, b i)) h)

    module _ (both : k < length ys) where
      abbrev Ahead : Type 0
      Ahead = Precedes (get_or xs k 0 ∷ drop (k + 1) xs) (get_or ys k 0 ∷ drop (k + 1) ys)

      to_ahead : Left → Ahead
      to_ahead h =
          let P : List ℕ × List ℕ → Type 0 = λ z. Precedes z.0 z.1 in
          let a = drop_more xs k 0 more in
          let b = drop_more ys k 0 both in
          subst P (λ i. (a i, b i)) h

      from_ahead : Ahead → Left
      from_ahead h =
          let P : List ℕ × List ℕ → Type 0 = λ z. Precedes z.0 z.1 in
          let a = sym (drop_more xs k 0 more) in
          let b = sym (drop_more ys k 0 both) in
          subst P (λ i. (a i, b i)) h

      pub left_less : get_or xs k 0 < get_or ys k 0 → Left
      left_less less = from_ahead (inl less)

      pub left_greater : get_or ys k 0 < get_or xs k 0 → ¬ Left
      left_greater greater h =
          elim (to_ahead h) as (λ _. ⊥) [ inl less ↦ omega (arith, less, greater) | inr same ↦ (let e = same.0 in omega (arith, e, greater)) ]

      pub left_same : get_or xs k 0 ≡ get_or ys k 0 → Left ↔ Precedes (drop (k + 1) xs) (drop (k + 1) ys)
      left_same same = (
        λ h. elim (to_ahead h) as (λ _. Precedes (drop (k + 1) xs) (drop (k + 1) ys)) [ inl less ↦ absurd (omega (arith, less, same)) | inr rest ↦ rest.1 ],
        λ h. from_ahead (inr (same, h)),
      )

-- ---- what is read of a list
pub read_at : (xs : List ℕ) (k x : ℕ) → slice_get xs k ≡ Some x → (k < length xs) × (get_or xs k 0 ≡ x)
read_at xs k x at = (slice_get_within xs k x at, get_or_from_slice_get xs k x 0 at)

pub none_past : (xs : List ℕ) (k : ℕ) → slice_get xs k ≡ None → length xs ≤ k
none_past xs k at =
    elim (cases_lt k (length xs)) as (λ _. length xs ≤ k) [
      | inl lt ↦ absurd (none-some (get_or xs k 0) (sym at ∙ slice_get-get_or xs k 0 lt))
      | inr le ↦ le
    ]

-- ---- by the first numbers of two lists
pub by_less : (x y : ℕ) (xs ys : List ℕ) → ¬ (x ≡ y) → (x < y) ↔ Precedes (x ∷ xs) (y ∷ ys)
by_less x y xs ys apart = (λ h. inl h, λ h. elim h as (λ _. x < y) [ inl less ↦ less | inr same ↦ absurd (apart same.0) ])

pub by_rest : (x y : ℕ) (xs ys : List ℕ) → x ≡ y → Precedes xs ys ↔ Precedes (x ∷ xs) (y ∷ ys)
by_rest x y xs ys same = (λ h. inr (same, h), λ h. elim h as (λ _. Precedes xs ys) [ inl less ↦ absurd (omega (arith, less)) | inr rest ↦ rest.1 ])

pub both_ways : {A B C : Type 0} → A ↔ B → B ↔ C → A ↔ C
both_ways f g = (λ a. g.0 (f.0 a), λ c. f.1 (g.1 c))
