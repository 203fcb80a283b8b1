-- What holds of each element of a list, or of some element, by recursion.
use Rattle.std.proofs.Common.{◌≡◌, ℕ, zero, suc, ◌<◌, Bool, true, false, cond, ◌⊎◌, inl, inr, List, [], ◌∷◌, ◌++◌, length, get_or, slice_get, Some, refl, subst, arith}
use Rattle.std.specs.List.{All, Any, Contains, filter}
use Rattle.std.proofs.lemmas.Option.{slice_get_within, get_or_from_slice_get}

abbrev pub EachOf : {A : Type 0} → (A → Type 0) → List A → Type 0
EachOf P [] = Unit {0}
EachOf P (x ∷ xs) = P x × EachOf P xs

abbrev pub SomeOf : {A : Type 0} → (A → Type 0) → List A → Type 0
SomeOf P [] = ⊥
SomeOf P (x ∷ xs) = P x ⊎ SomeOf P xs

pub each_get : {A : Type 0} (P : A → Type 0) (xs : List A) (k : ℕ) (d : A) → EachOf P xs → k < length xs → P (get_or xs k d)
each_get P [] k d h lt = absurd (omega arith)
each_get P (x ∷ xs) zero d h lt = h.0
each_get P (x ∷ xs) (suc k) d h lt = each_get P xs k d h.1 (omega arith)

pub all_of : {A : Type 0} (P : A → Type 0) (xs : List A) → EachOf P xs → All P xs
all_of P xs h = λ k d lt. each_get P xs k d h lt

pub each_contains : {A : Type 0} (P : A → Type 0) (xs : List A) (x : A) → EachOf P xs → Contains xs x → P x
each_contains P xs x h c = subst P c.2 (each_get P xs c.0 x h c.1)

pub any_of : {A : Type 0} (P : A → Type 0) (xs : List A) → SomeOf P xs → Any P xs
any_of P [] h = absurd h
any_of P (x ∷ xs) (inl h) = (0, x, omega arith, refl, h)
any_of P (x ∷ xs) (inr h) = let later = any_of P xs h in (suc later.0, later.1, omega (arith, later.2), later.3, later.4)

pub all_at : {A : Type 0} (P : A → Type 0) (xs : List A) (k : ℕ) (x : A) → All P xs → slice_get xs k ≡ Some x → P x
all_at P xs k x h at = subst P (get_or_from_slice_get xs k x x at) (h k x (slice_get_within xs k x at))

pub each_map : {A : Type 0} (P Q : A → Type 0) → ((x : A) → P x → Q x) → (xs : List A) → EachOf P xs → EachOf Q xs
each_map P Q f [] h = tt
each_map P Q f (x ∷ xs) h = (f x h.0, each_map P Q f xs h.1)

pub some_map : {A : Type 0} (P Q : A → Type 0) → ((x : A) → P x → Q x) → (xs : List A) → SomeOf P xs → SomeOf Q xs
some_map P Q f [] h = h
some_map P Q f (x ∷ xs) (inl h) = inl (f x h)
some_map P Q f (x ∷ xs) (inr h) = inr (some_map P Q f xs h)

pub each_append : {A : Type 0} (P : A → Type 0) (xs ys : List A) → EachOf P xs → EachOf P ys → EachOf P (xs ++ ys)
each_append P [] ys f g = g
each_append P (x ∷ xs) ys f g = (f.0, each_append P xs ys f.1 g)

pub each_left : {A : Type 0} (P : A → Type 0) (xs ys : List A) → EachOf P (xs ++ ys) → EachOf P xs
each_left P [] ys h = tt
each_left P (x ∷ xs) ys h = (h.0, each_left P xs ys h.1)

pub each_right : {A : Type 0} (P : A → Type 0) (xs ys : List A) → EachOf P (xs ++ ys) → EachOf P ys
each_right P [] ys h = h
each_right P (x ∷ xs) ys h = each_right P xs ys h.1

pub some_left : {A : Type 0} (P : A → Type 0) (xs ys : List A) → SomeOf P xs → SomeOf P (xs ++ ys)
some_left P [] ys h = absurd h
some_left P (x ∷ xs) ys (inl h) = inl h
some_left P (x ∷ xs) ys (inr h) = inr (some_left P xs ys h)

pub some_right : {A : Type 0} (P : A → Type 0) (xs ys : List A) → SomeOf P ys → SomeOf P (xs ++ ys)
some_right P [] ys h = h
some_right P (x ∷ xs) ys h = inr (some_right P xs ys h)

pub either_of : {A : Type 0} (P Q : A → Type 0) → ((x : A) → P x ⊎ Q x) → (xs : List A) → SomeOf P xs ⊎ EachOf Q xs
either_of P Q f [] = inr tt
either_of P Q f (x ∷ xs) =
    elim (f x) as (λ _. SomeOf P (x ∷ xs) ⊎ EachOf Q (x ∷ xs)) [
      | inl p ↦ inl (inl p)
      | inr q ↦ elim (either_of P Q f xs) as (λ _. SomeOf P (x ∷ xs) ⊎ EachOf Q (x ∷ xs)) [ inl p ↦ inl (inr p) | inr qs ↦ inr (q, qs) ]
    ]

pub filter_each : {A : Type 0} (P : A → Type 0) (p : A → Bool) (xs : List A) → EachOf P xs → EachOf P (filter p xs)
filter_each P p [] h = tt
filter_each P p (x ∷ xs) h =
    elim (p x) as (λ v. EachOf P (cond v (x ∷ filter p xs) (filter p xs))) [ true ↦ (h.0, filter_each P p xs h.1) | false ↦ filter_each P p xs h.1 ]
