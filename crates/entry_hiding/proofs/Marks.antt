-- Lists of positions, and what stands where after marks and after an item more.
use Rattle.std.proofs.Common.{◌≡◌, ℕ, zero, suc, ◌<◌, ◌+◌, ◌⊎◌, inl, inr, List, [], ◌∷◌, ◌++◌, length, get_or, drop, Option, Some, slice_get, refl, ap, ◌∙◌, subst, arith}
use Rattle.std.specs.Prelude.{slice_set}
use Rattle.std.proofs.lemmas.List.{length-set}
use Rattle.std.proofs.lemmas.Option.{same_Some}
use Rattle.entry_hiding.specs.Hiding.{IsMember, AreBelow, with_marks}

same_or_not : (i j : ℕ) → (i ≡ j) ⊎ (¬ (i ≡ j))
same_or_not zero zero = inl refl
same_or_not zero (suc j) = inr (λ e. omega arith)
same_or_not (suc i) zero = inr (λ e. omega arith)
same_or_not (suc i) (suc j) =
    elim (same_or_not i j) as (λ _. (suc i ≡ suc j) ⊎ (¬ (suc i ≡ suc j))) [ inl e ↦ inl (ap suc e) | inr apart ↦ inr (λ e. apart (omega arith)) ]

pub member_or_not : (k : ℕ) (ks : List ℕ) → IsMember k ks ⊎ (¬ IsMember k ks)
member_or_not k [] = inr (λ h. h)
member_or_not k (x ∷ ks) =
    elim (same_or_not x k) as (λ _. IsMember k (x ∷ ks) ⊎ (¬ IsMember k (x ∷ ks))) [
      | inl e ↦ inl (inl e)
      | inr apart ↦ elim (member_or_not k ks) as (λ _. IsMember k (x ∷ ks) ⊎ (¬ IsMember k (x ∷ ks))) [
        | inl m ↦ inl (inr m)
        | inr none ↦ inr (λ h. elim h as (λ _. ⊥) [ inl e ↦ apart e | inr m ↦ none m ])
      ]
    ]

pub member_cases : (k : ℕ) (ks : List ℕ) (x : ℕ) → IsMember k (ks ++ x ∷ []) → IsMember k ks ⊎ (x ≡ k)
member_cases k [] x (inl e) = inr e
member_cases k [] x (inr h) = absurd h
member_cases k (y ∷ ks) x (inl e) = inl (inl e)
member_cases k (y ∷ ks) x (inr h) =
    elim (member_cases k ks x h) as (λ _. IsMember k (y ∷ ks) ⊎ (x ≡ k)) [ inl m ↦ inl (inr m) | inr e ↦ inr e ]

pub member_old : (k : ℕ) (ks : List ℕ) (x : ℕ) → IsMember k ks → IsMember k (ks ++ x ∷ [])
member_old k [] x h = absurd h
member_old k (y ∷ ks) x (inl e) = inl e
member_old k (y ∷ ks) x (inr h) = inr (member_old k ks x h)

pub member_end : (k : ℕ) (ks : List ℕ) (x : ℕ) → x ≡ k → IsMember k (ks ++ x ∷ [])
member_end k [] x e = inl e
member_end k (y ∷ ks) x e = inr (member_end k ks x e)

-- what holds of each number of the list holds of each of a list with one more
pub only_more : (P : ℕ → Type 0) (ks : List ℕ) (x : ℕ) → ((i : ℕ) → IsMember i ks → P i) → P x → (i : ℕ) → IsMember i (ks ++ x ∷ []) → P i
only_more P ks x each p i m =
    elim (member_cases i ks x m) as (λ _. P i) [ inl old ↦ each i old | inr e ↦ subst P e p ]

-- each number below n with P is in the list, and n is put into it
pub all_more : (P : ℕ → Type 0) (ks : List ℕ) (n : ℕ) → ((i : ℕ) → i < n → P i → IsMember i ks) → (i : ℕ) → i < n + 1 → P i → IsMember i (ks ++ n ∷ [])
all_more P ks n each i lt p =
    elim (same_or_not n i) as (λ _. IsMember i (ks ++ n ∷ [])) [ inl e ↦ member_end i ks n e | inr apart ↦ member_old i ks n (each i (omega arith) p) ]

-- the same where n has apart P
pub all_past : (P : ℕ → Type 0) (ks : List ℕ) (n : ℕ) → ((i : ℕ) → i < n → P i → IsMember i ks) → ¬ P n → (i : ℕ) → i < n + 1 → P i → IsMember i ks
all_past P ks n each none i lt p =
    elim (same_or_not i n) as (λ _. IsMember i ks) [ inl e ↦ absurd (none (subst P e p)) | inr apart ↦ each i (omega arith) p ]

pub all_below : (n : ℕ) (ks : List ℕ) → ((k : ℕ) → IsMember k ks → k < n) → AreBelow n ks
all_below n [] h = tt
all_below n (x ∷ ks) h = (h x (inl refl), all_below n ks (λ k m. h k (inr m)))

pub below_step : (n : ℕ) (ks : List ℕ) (i : ℕ) → AreBelow n (drop i ks) → i < length ks → (get_or ks i 0 < n) × AreBelow n (drop (suc i) ks)
below_step n [] i h lt = absurd (omega arith)
below_step n (x ∷ ks) zero h lt = h
below_step n (x ∷ ks) (suc i) h lt = below_step n ks i h (omega arith)

pub marked_step : (xs : List (Option ℕ)) (ks : List ℕ) (i : ℕ) (v : Option ℕ) → i < length ks → with_marks xs (drop i ks) v ≡ with_marks (slice_set xs (get_or ks i 0) v) (drop (suc i) ks) v
marked_step xs [] i v lt = absurd (omega arith)
marked_step xs (x ∷ ks) zero v lt = refl
marked_step xs (x ∷ ks) (suc i) v lt = marked_step xs ks i v (omega arith)

set_here : {A : Type 0} (xs : List A) (k i : ℕ) (v : A) → k ≡ i → i < length xs → slice_get (slice_set xs k v) i ≡ Some v
set_here [] k i v e lt = absurd (omega arith)
set_here (x ∷ xs) zero zero v e lt = refl
set_here (x ∷ xs) zero (suc i) v e lt = absurd (omega arith)
set_here (x ∷ xs) (suc k) zero v e lt = absurd (omega arith)
set_here (x ∷ xs) (suc k) (suc i) v e lt = set_here xs k i v (omega arith) (omega arith)

set_other : {A : Type 0} (xs : List A) (k i : ℕ) (v : A) → ¬ (k ≡ i) → slice_get (slice_set xs k v) i ≡ slice_get xs i
set_other [] k i v apart = refl
set_other (x ∷ xs) zero zero v apart = absurd (apart refl)
set_other (x ∷ xs) zero (suc i) v apart = refl
set_other (x ∷ xs) (suc k) zero v apart = refl
set_other (x ∷ xs) (suc k) (suc i) v apart = set_other xs k i v (λ e. apart (ap suc e))

set_kept : {A : Type 0} (xs : List A) (k i : ℕ) (v : A) → slice_get xs i ≡ Some v → slice_get (slice_set xs k v) i ≡ Some v
set_kept [] k i v h = h
set_kept (x ∷ xs) zero zero v h = refl
set_kept (x ∷ xs) zero (suc i) v h = h
set_kept (x ∷ xs) (suc k) zero v h = h
set_kept (x ∷ xs) (suc k) (suc i) v h = set_kept xs k i v h

pub length_marked : (xs : List (Option ℕ)) (ks : List ℕ) (v : Option ℕ) → length (with_marks xs ks v) ≡ length xs
length_marked xs [] v = refl
length_marked xs (k ∷ ks) v = length_marked (slice_set xs k v) ks v ∙ length-set xs k v

marked_kept : (xs : List (Option ℕ)) (ks : List ℕ) (v : Option ℕ) (i : ℕ) → slice_get xs i ≡ Some v → slice_get (with_marks xs ks v) i ≡ Some v
marked_kept xs [] v i h = h
marked_kept xs (k ∷ ks) v i h = marked_kept (slice_set xs k v) ks v i (set_kept xs k i v h)

pub marked_member : (xs : List (Option ℕ)) (ks : List ℕ) (v : Option ℕ) (i : ℕ) → IsMember i ks → i < length xs → slice_get (with_marks xs ks v) i ≡ Some v
marked_member xs [] v i m lt = absurd m
marked_member xs (k ∷ ks) v i (inl e) lt = marked_kept (slice_set xs k v) ks v i (set_here xs k i v e lt)
marked_member xs (k ∷ ks) v i (inr m) lt = marked_member (slice_set xs k v) ks v i m (omega (arith, length-set xs k v))

pub marked_other : (xs : List (Option ℕ)) (ks : List ℕ) (v : Option ℕ) (i : ℕ) → ¬ IsMember i ks → slice_get (with_marks xs ks v) i ≡ slice_get xs i
marked_other xs [] v i m = refl
marked_other xs (k ∷ ks) v i m =
    marked_other (slice_set xs k v) ks v i (λ h. m (inr h)) ∙ set_other xs k i v (λ e. m (inl e))

-- what stands in a list with an item more
pub push_old : {A : Type 0} (xs : List A) (y : A) (k : ℕ) (a : A) → slice_get xs k ≡ Some a → slice_get (xs ++ y ∷ []) k ≡ Some a
push_old [] y k a h = cc
push_old (x ∷ xs) y zero a h = h
push_old (x ∷ xs) y (suc k) a h = push_old xs y k a h

pub push_end : {A : Type 0} (xs : List A) (y : A) (k : ℕ) → k ≡ length xs → slice_get (xs ++ y ∷ []) k ≡ Some y
push_end [] y zero e = refl
push_end [] y (suc k) e = absurd (omega arith)
push_end (x ∷ xs) y zero e = absurd (omega arith)
push_end (x ∷ xs) y (suc k) e = push_end xs y k (omega arith)

pub push_cases : {A : Type 0} (xs : List A) (y : A) (k : ℕ) (a : A) → slice_get (xs ++ y ∷ []) k ≡ Some a → (slice_get xs k ≡ Some a) ⊎ ((k ≡ length xs) × (y ≡ a))
push_cases [] y zero a h = inr (refl, same_Some y a h)
push_cases [] y (suc k) a h = cc
push_cases (x ∷ xs) y zero a h = inl h
push_cases (x ∷ xs) y (suc k) a h =
    elim (push_cases xs y k a h) as (λ _. (slice_get (x ∷ xs) (suc k) ≡ Some a) ⊎ ((suc k ≡ length (x ∷ xs)) × (y ≡ a))) [ inl old ↦ inl old | inr new ↦ inr (omega (arith, new.0), new.1) ]

pub at_below : {A : Type 0} (xs : List A) (k : ℕ) → k < length xs → (a : A) × (slice_get xs k ≡ Some a)
at_below [] k lt = absurd (omega arith)
at_below (x ∷ xs) zero lt = (x, refl)
at_below (x ∷ xs) (suc k) lt = at_below xs k (omega arith)
