-- Rising lists of numbers, as one is put to the end or taken off.
use Rattle.std.proofs.Common.{◌≡◌, ℕ, zero, suc, ◌-◌, ◌<◌, ◌≤◌, ◌↔◌, inl, inr, Bool, true, false, List, [], ◌∷◌, ◌++◌, length, get_or, take, slice_get, Some, eqb, refl, sym, ap, subst, ◌∙◌, arith}
use Rattle.std.specs.List.{Contains}
use Rattle.std.proofs.lemmas.Bool.{eqb-true, eq-eqb, cases_lt}
use Rattle.std.proofs.lemmas.List.{length-take, get_or-take, get_or_append_left, get_or_push, length_push}
use Rattle.std.proofs.lemmas.List.Elements.{Contains-get_or}
use Rattle.clause_pairs.specs.Lists.{ends_with, put_to, without, IsRising}

-- ---- the last number
pub ends_none : (k : ℕ) (xs : List ℕ) → length xs ≡ 0 → ends_with k xs ≡ false
ends_none k [] h = refl
ends_none k (x ∷ xs) h = absurd (omega arith)

pub ends_some : (k x : ℕ) (xs : List ℕ) (i : ℕ) → suc i ≡ length xs → slice_get xs i ≡ Some x → ends_with k xs ≡ eqb x k
ends_some k x [] i e h = absurd (omega arith)
ends_some k x (y ∷ []) zero e h = let same : Some y ≡ Some x = h in let is : y ≡ x = cc in ap (λ z. eqb z k) is
ends_some k x (y ∷ []) (suc i) e h = absurd (omega arith)
ends_some k x (y ∷ z ∷ xs) zero e h = absurd (omega arith)
ends_some k x (y ∷ z ∷ xs) (suc i) e h = ends_some k x (z ∷ xs) i (omega arith) h

pub ends_push : (k : ℕ) (xs : List ℕ) → ends_with k (xs ++ k ∷ []) ≡ true
ends_push k [] = eq-eqb k k refl
ends_push k (x ∷ []) = eq-eqb k k refl
ends_push k (x ∷ y ∷ xs) = ends_push k (y ∷ xs)

-- the last number is the one with which the list ends
last_is : (k : ℕ) (xs : List ℕ) (i d : ℕ) → suc i ≡ length xs → ends_with k xs ≡ true → get_or xs i d ≡ k
last_is k [] i d e h = absurd (omega arith)
last_is k (x ∷ []) zero d e h = eqb-true x k h
last_is k (x ∷ []) (suc i) d e h = absurd (omega arith)
last_is k (x ∷ y ∷ xs) zero d e h = absurd (omega arith)
last_is k (x ∷ y ∷ xs) (suc i) d e h = last_is k (y ∷ xs) i d (omega arith) h

is_last : (k : ℕ) (xs : List ℕ) (i d : ℕ) → suc i ≡ length xs → get_or xs i d ≡ k → ends_with k xs ≡ true
is_last k [] i d e h = absurd (omega arith)
is_last k (x ∷ []) zero d e h = eq-eqb x k h
is_last k (x ∷ []) (suc i) d e h = absurd (omega arith)
is_last k (x ∷ y ∷ xs) zero d e h = absurd (omega arith)
is_last k (x ∷ y ∷ xs) (suc i) d e h = is_last k (y ∷ xs) i d (omega arith) h

-- a list that ends with a number has a last index
some_of : (k : ℕ) (xs : List ℕ) → ends_with k xs ≡ true → (i : ℕ) × (suc i ≡ length xs)
some_of k [] h = let other : false ≡ true = h in cc
some_of k (x ∷ xs) h = (length xs, refl)

pub ends_contains : (k : ℕ) (xs : List ℕ) → ends_with k xs ≡ true → Contains xs k
ends_contains k xs h = let i = some_of k xs h in (i.0, omega (arith, i.1), last_is k xs i.0 k i.1 h)

-- ---- a number more
put_by : (k : ℕ) (xs : List ℕ) (b : Bool) → ends_with k xs ≡ b → ¬ (b ≡ true) → put_to k xs ≡ xs ++ k ∷ []
put_by k xs true e never = absurd (never refl)
put_by k xs false e never = rw e refl

pub put_is : (k : ℕ) (xs : List ℕ) → ((x : ℕ) → Contains xs x → x < k) → put_to k xs ≡ xs ++ k ∷ []
put_is k xs below = put_by k xs (ends_with k xs) refl (λ h. let less = below k (ends_contains k xs h) in omega (arith, less))

twice_by : (k : ℕ) (xs : List ℕ) (b : Bool) → ends_with k xs ≡ b → put_to k (put_to k xs) ≡ put_to k xs
twice_by k xs true e = rw (e, e) refl
twice_by k xs false e = rw (e, ends_push k xs) refl

pub put_twice : (k : ℕ) (xs : List ℕ) → put_to k (put_to k xs) ≡ put_to k xs
put_twice k xs = twice_by k xs (ends_with k xs) refl

pub rising_push : (xs : List ℕ) (k : ℕ) → IsRising xs → ((x : ℕ) → Contains xs x → x < k) → IsRising (xs ++ k ∷ [])
rising_push xs k up below i j d lt within =
    let len = length_push xs k in
    let old : i < length xs = omega (arith, len) in
    let first : get_or (xs ++ k ∷ []) i d ≡ get_or xs i d = get_or_append_left xs (k ∷ []) d i old in
    elim (cases_lt j (length xs)) as (λ _. get_or (xs ++ k ∷ []) i d < get_or (xs ++ k ∷ []) j d) [
      | inl l ↦ let second = get_or_append_left xs (k ∷ []) d j l in let less = up i j d lt l in omega (arith, first, second, less)
      | inr ge ↦
          let second : get_or (xs ++ k ∷ []) j d ≡ k = get_or_push xs k d j (omega (arith, len)) in
          let less = below (get_or xs i d) (Contains-get_or xs i d old) in
          omega (arith, first, second, less)
    ]

-- ---- a number less
without_ended : (k : ℕ) (xs : List ℕ) → ends_with k xs ≡ true → without k xs ≡ take (length xs - 1) xs
without_ended k xs h = rw h refl

without_other : (k : ℕ) (xs : List ℕ) → ends_with k xs ≡ false → without k xs ≡ xs
without_other k xs h = rw h refl

rising_take : (n : ℕ) (xs : List ℕ) → IsRising xs → IsRising (take n xs)
rising_take n xs up i j d lt within =
    let len = length-take n xs in
    let first = get_or-take n xs i d (omega (arith, len, within)) in
    let second = get_or-take n xs j d (omega (arith, len, within)) in
    let less = up i j d lt (omega (arith, len, within)) in
    omega (arith, first, second, less)

rising_by : (k : ℕ) (xs : List ℕ) (b : Bool) → ends_with k xs ≡ b → IsRising xs → IsRising (without k xs)
rising_by k xs true e up = let P : List ℕ → Type 0 = λ z. IsRising z in subst P (sym (without_ended k xs e)) (rising_take (length xs - 1) xs up)
rising_by k xs false e up = let P : List ℕ → Type 0 = λ z. IsRising z in subst P (sym (without_other k xs e)) up

pub without_rising : (k : ℕ) (xs : List ℕ) → IsRising xs → IsRising (without k xs)
without_rising k xs up = rising_by k xs (ends_with k xs) refl up

module _ (k : ℕ) (xs : List ℕ) (up : IsRising xs) (most : (x : ℕ) → Contains xs x → x ≤ k) where
  fewer_to : (x n : ℕ) → suc n ≡ length xs → ends_with k xs ≡ true → Contains (take n xs) x → Contains xs x × (x < k)
  fewer_to x n e h c =
      let i = c.0 in
      let len = length-take n xs in
      let lt = c.1 in
      let early : i < n = omega (arith, len, lt) in
      let same : get_or xs i x ≡ x = sym (get_or-take n xs i x early) ∙ c.2 in
      let last = last_is k xs n x e h in
      let less = up i n x early (omega arith) in
      ((i, omega arith, same), omega (arith, same, last, less))

  fewer_from : (x n : ℕ) → suc n ≡ length xs → ends_with k xs ≡ true → Contains xs x → x < k → Contains (take n xs) x
  fewer_from x n e h c lt =
      let i = c.0 in
      let within = c.1 in
      let is : get_or xs i x ≡ x = c.2 in
      let len = length-take n xs in
      elim (cases_lt i n) as (λ _. Contains (take n xs) x) [
        | inl early ↦ (i, omega (arith, len), get_or-take n xs i x early ∙ is)
        | inr late ↦
            let at : i ≡ n = omega (arith, within) in
            let last : get_or xs i x ≡ k = ap (λ z. get_or xs z x) at ∙ last_is k xs n x e h in
            absurd (omega (arith, is, last))
      ]

  other_less : (x : ℕ) → ends_with k xs ≡ false → Contains xs x → x < k
  other_less x h c =
      let i = c.0 in
      let within = c.1 in
      let is : get_or xs i x ≡ x = c.2 in
      let le = most x c in
      elim (cases_lt x k) as (λ _. x < k) [
        | inl lt ↦ lt
        | inr ge ↦
            let same : x ≡ k = omega (arith, le) in
            elim (cases_lt (suc i) (length xs)) as (λ _. x < k) [
              | inl more ↦
                  let next = up i (suc i) x (omega arith) more in
                  let bound = most (get_or xs (suc i) x) (Contains-get_or xs (suc i) x more) in
                  absurd (omega (arith, next, bound, is, same))
              | inr end ↦
                  let ended : ends_with k xs ≡ true = is_last k xs i x (omega (arith, within)) (is ∙ same) in
                  cc
            ]
      ]

  exact_by : (x : ℕ) (b : Bool) → ends_with k xs ≡ b → Contains (without k xs) x ↔ (Contains xs x × (x < k))
  exact_by x true e =
      let last = some_of k xs e in
      let n : length xs - 1 ≡ last.0 = omega (arith, last.1) in
      let is : without k xs ≡ take last.0 xs = without_ended k xs e ∙ ap (λ z. take z xs) n in
      let P : List ℕ → Type 0 = λ z. Contains z x ↔ (Contains xs x × (x < k)) in
      subst P (sym is) (λ c. fewer_to x last.0 last.1 e c, λ h. fewer_from x last.0 last.1 e h.0 h.1)
  exact_by x false e =
      let P : List ℕ → Type 0 = λ z. Contains z x ↔ (Contains xs x × (x < k)) in
      subst P (sym (without_other k xs e)) (λ c. (c, other_less x e c), λ h. h.0)

  pub without_exact : (x : ℕ) → Contains (without k xs) x ↔ (Contains xs x × (x < k))
  without_exact x = exact_by x (ends_with k xs) refl

  same_by : (b : Bool) → ends_with k (without k xs) ≡ b → without k (without k xs) ≡ without k xs
  same_by true e = let h = (without_exact k).0 (ends_contains k (without k xs) e) in let less = h.1 in absurd (omega (arith, less))
  same_by false e = without_other k (without k xs) e

  pub without_twice : without k (without k xs) ≡ without k xs
  without_twice = same_by (ends_with k (without k xs)) refl

-- what was put to the end comes off
off_by : (k : ℕ) (xs : List ℕ) (b : Bool) → ends_with k xs ≡ b → ¬ (b ≡ true) → without k xs ≡ xs
off_by k xs true e never = absurd (never refl)
off_by k xs false e never = without_other k xs e

pub without_none : (k : ℕ) (xs : List ℕ) → ¬ Contains xs k → without k xs ≡ xs
without_none k xs none = off_by k xs (ends_with k xs) refl (λ h. none (ends_contains k xs h))
