-- What stands in a list.
use Rattle.std.proofs.Common.{◌≡◌, ℕ, zero, suc, ◌⊎◌, inl, inr, List, [], ◌∷◌, ◌++◌, reverse, Some, slice_get, sym, subst, ap}
use Rattle.std.proofs.lemmas.List.{reverse-append}
use Rattle.std.proofs.lemmas.Option.{same_Some}
use Rattle.branch_core.specs.Whole.{IsIn}

-- it is the first item, or it stands among the others
abbrev pub Has : {A : Type 0} → A → List A → Type 0
Has x [] = ⊥
Has x (y ∷ ys) = (x ≡ y) ⊎ Has x ys

has_at : {A : Type 0} (x : A) (xs : List A) (k : ℕ) → slice_get xs k ≡ Some x → Has x xs
has_at x [] zero e = absurd cc
has_at x [] (suc k) e = absurd cc
has_at x (y ∷ ys) zero e = inl (sym (same_Some y x e))
has_at x (y ∷ ys) (suc k) e = inr (has_at x ys k e)

pub has : {A : Type 0} (x : A) (xs : List A) → IsIn x xs → Has x xs
has x xs h = has_at x xs h.0 h.1

pub is_in : {A : Type 0} (x : A) (xs : List A) → Has x xs → IsIn x xs
is_in x [] h = absurd h
is_in x (y ∷ ys) (inl e) = (0, ap (λ z. Some z) (sym e))
is_in x (y ∷ ys) (inr h) = let later = is_in x ys h in (suc later.0, later.1)

pub has_left : {A : Type 0} (x : A) (xs ys : List A) → Has x xs → Has x (xs ++ ys)
has_left x [] ys h = absurd h
has_left x (y ∷ xs) ys (inl e) = inl e
has_left x (y ∷ xs) ys (inr h) = inr (has_left x xs ys h)

pub has_right : {A : Type 0} (x : A) (xs ys : List A) → Has x ys → Has x (xs ++ ys)
has_right x [] ys h = h
has_right x (y ∷ xs) ys h = inr (has_right x xs ys h)

pub has_either : {A : Type 0} (x : A) (xs ys : List A) → Has x (xs ++ ys) → Has x xs ⊎ Has x ys
has_either x [] ys h = inr h
has_either x (y ∷ xs) ys (inl e) = inl (inl e)
has_either x (y ∷ xs) ys (inr h) = elim (has_either x xs ys h) as (λ _. Has x (y ∷ xs) ⊎ Has x ys) [ inl a ↦ inl (inr a) | inr b ↦ inr b ]

turned : {A : Type 0} (y : A) (ys : List A) → reverse (y ∷ ys) ≡ reverse ys ++ y ∷ []
turned y ys = reverse-append (y ∷ []) ys

pub has_reverse : {A : Type 0} (x : A) (xs : List A) → Has x xs → Has x (reverse xs)
has_reverse x [] h = absurd h
has_reverse x (y ∷ ys) (inl e) = subst (Has x) (sym (turned y ys)) (has_right x (reverse ys) (y ∷ []) (inl e))
has_reverse x (y ∷ ys) (inr h) = subst (Has x) (sym (turned y ys)) (has_left x (reverse ys) (y ∷ []) (has_reverse x ys h))

pub has_reversed : {A : Type 0} (x : A) (xs : List A) → Has x (reverse xs) → Has x xs
has_reversed x [] h = h
has_reversed x (y ∷ ys) h =
    elim (has_either x (reverse ys) (y ∷ []) (subst (Has x) (turned y ys) h)) as (λ _. Has x (y ∷ ys)) [
      | inl before ↦ inr (has_reversed x ys before)
      | inr last ↦ elim last as (λ _. Has x (y ∷ ys)) [ inl e ↦ inl e | inr none ↦ absurd none ]
    ]

-- ---- short lists

pub none_in : {A : Type 0} {x : A} → IsIn x [] → ⊥
none_in {x = x} h = has x [] h

pub only : {A : Type 0} (x y : A) → IsIn x (y ∷ []) → x ≡ y
only x y h = go (has x (y ∷ []) h)
  where
    go : Has x (y ∷ []) → x ≡ y
    go (inl e) = e
    go (inr none) = absurd none

pub either : {A : Type 0} (x y z : A) → IsIn x (y ∷ z ∷ []) → (x ≡ y) ⊎ (x ≡ z)
either x y z h = go (has x (y ∷ z ∷ []) h)
  where
    go : Has x (y ∷ z ∷ []) → (x ≡ y) ⊎ (x ≡ z)
    go (inl e) = inl e
    go (inr (inl e)) = inr e
    go (inr (inr none)) = absurd none
