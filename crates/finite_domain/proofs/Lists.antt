-- Facts on all elements of a list and on some, and lists without repeats by first occurrence.
use Rattle.std.proofs.Common.{◌≡◌, ℕ, zero, suc, ◌+◌, ◌<◌, ◌⊎◌, inl, inr, Bool, true, false, cond, ◌||◌, List, [], ◌∷◌, ◌++◌, length, get_or, map, refl, sym, ap, subst, ◌∙◌, arith}
use Rattle.std.proofs.lemmas.List.Elements.{All-nil, All-cons, All-rest}
use Rattle.std.specs.List.{All, Any, AllByRecursion, list_any}

-- ---- all elements

pub all_of_them : {X : Type 0} (P : X → Type 0) (xs : List X) → AllByRecursion P xs → All P xs
all_of_them P [] h = All-nil P
all_of_them P (x ∷ xs) h = All-cons P x xs h.0 (all_of_them P xs h.1)

pub by_recursion : {X : Type 0} (P : X → Type 0) (xs : List X) → All P xs → AllByRecursion P xs
by_recursion P [] h = tt
by_recursion P (x ∷ xs) h = (h 0 x (omega arith), by_recursion P xs (All-rest P x xs (x ∷ xs) refl h))

pub both : {X : Type 0} (P : X → Type 0) (xs ys : List X) → AllByRecursion P xs → AllByRecursion P ys → AllByRecursion P (xs ++ ys)
both P [] ys h k = k
both P (x ∷ xs) ys h k = (h.0, both P xs ys h.1 k)

pub front : {X : Type 0} (P : X → Type 0) (xs ys : List X) → AllByRecursion P (xs ++ ys) → AllByRecursion P xs
front P [] ys h = tt
front P (x ∷ xs) ys h = (h.0, front P xs ys h.1)

pub back : {X : Type 0} (P : X → Type 0) (xs ys : List X) → AllByRecursion P (xs ++ ys) → AllByRecursion P ys
back P [] ys h = h
back P (x ∷ xs) ys h = back P xs ys h.1

pub weaker : {X : Type 0} (P Q : X → Type 0) (xs : List X) → ((x : X) → P x → Q x) → AllByRecursion P xs → AllByRecursion Q xs
weaker P Q [] f h = tt
weaker P Q (x ∷ xs) f h = (f x h.0, weaker P Q xs f h.1)

pub mapped_length : {X Y : Type 0} (f : X → Y) (xs : List X) → length (map f xs) ≡ length xs
mapped_length f [] = refl
mapped_length f (x ∷ xs) = omega (arith, mapped_length f xs)

-- ---- some element

or_left : (a b c : Bool) → (a || b) ≡ true → (b ≡ true → c ≡ true) → (a || c) ≡ true
or_left true b c h k = refl
or_left false b c h k = k h

pub or_right : (a b : Bool) → b ≡ true → (a || b) ≡ true
or_right true b h = refl
or_right false b h = h

pub any_front : {X : Type 0} (p : X → Bool) (xs ys : List X) → list_any p xs ≡ true → list_any p (xs ++ ys) ≡ true
any_front p [] ys h = absurd cc
any_front p (x ∷ xs) ys h = or_left (p x) (list_any p xs) (list_any p (xs ++ ys)) h (any_front p xs ys)

pub any_last : {X : Type 0} (p : X → Bool) (xs : List X) (y : X) → p y ≡ true → list_any p (xs ++ y ∷ []) ≡ true
any_last p [] y h = rw h refl
any_last p (x ∷ xs) y h = or_right (p x) (list_any p (xs ++ y ∷ [])) (any_last p xs y h)

-- ---- first occurrences

over : {A B C : Type 0} → (B → C) → A ⊎ B → A ⊎ C
over f (inl a) = inl a
over f (inr b) = inr (f b)

-- a call that puts those of a list behind others that do not stand there yet
module _ {X : Type 0} (eq : X → X → Bool) (sound : (x y : X) → eq x y ≡ true → x ≡ y) (self : (x : X) → eq x x ≡ true)
    (first : List X → List X → List X) (stop : (seen : List X) → first seen [] ≡ seen)
    (go : (seen : List X) (x : X) (xs : List X) → first seen (x ∷ xs) ≡ cond (list_any (eq x) seen) (first seen xs) (first (seen ++ x ∷ []) xs)) where
  noted_by : (p x : X) (seen xs : List X) (test : Bool) → list_any (eq x) seen ≡ test
      → ((s : List X) → (list_any (eq p) s ≡ true) ⊎ (list_any (eq p) xs ≡ true) → list_any (eq p) (first s xs) ≡ true)
      → (list_any (eq p) seen ≡ true) ⊎ ((p ≡ x) ⊎ (list_any (eq p) xs ≡ true))
      → list_any (eq p) (cond test (first seen xs) (first (seen ++ x ∷ []) xs)) ≡ true
  noted_by p x seen xs true is rest (inl h) = rest seen (inl h)
  noted_by p x seen xs true is rest (inr (inl e)) = rest seen (inl (ap (λ (v : X). list_any (eq v) seen) e ∙ is))
  noted_by p x seen xs true is rest (inr (inr h)) = rest seen (inr h)
  noted_by p x seen xs false is rest (inl h) = rest (seen ++ x ∷ []) (inl (any_front (eq p) seen (x ∷ []) h))
  noted_by p x seen xs false is rest (inr (inl e)) = rest (seen ++ x ∷ []) (inl (any_last (eq p) seen x (ap (λ (v : X). eq v x) e ∙ self x)))
  noted_by p x seen xs false is rest (inr (inr h)) = rest (seen ++ x ∷ []) (inr h)

  split_by : (p x : X) (xs : List X) (test : Bool) → eq p x ≡ test → (test || list_any (eq p) xs) ≡ true → (p ≡ x) ⊎ (list_any (eq p) xs ≡ true)
  split_by p x xs true is h = inl (sound p x is)
  split_by p x xs false is h = inr h

  noted : (p : X) (seen xs : List X) → (list_any (eq p) seen ≡ true) ⊎ (list_any (eq p) xs ≡ true) → list_any (eq p) (first seen xs) ≡ true
  noted p seen [] (inl h) = ap (list_any (eq p)) (stop seen) ∙ h
  noted p seen [] (inr h) = absurd cc
  noted p seen (x ∷ xs) h =
      ap (list_any (eq p)) (go seen x xs)
      ∙ noted_by p x seen xs (list_any (eq x) seen) refl (λ s. noted p s xs) (over (split_by p x xs (eq p x) refl) h)

  self_in : (xs : List X) → AllByRecursion (λ (p : X). list_any (eq p) xs ≡ true) xs
  self_in [] = tt
  self_in (x ∷ xs) = (
    ap (λ (b : Bool). b || list_any (eq x) xs) (self x),
    weaker (λ (p : X). list_any (eq p) xs ≡ true) (λ (p : X). (eq p x || list_any (eq p) xs) ≡ true) xs (λ p h. or_right (eq p x) (list_any (eq p) xs) h) (self_in xs),
  )

  -- each of them stands there then
  pub all_stand : (xs : List X) → AllByRecursion (λ (p : X). list_any (eq p) (first [] xs) ≡ true) xs
  all_stand xs = weaker (λ (p : X). list_any (eq p) xs ≡ true) (λ (p : X). list_any (eq p) (first [] xs) ≡ true) xs (λ p h. noted p [] xs (inr h)) (self_in xs)

  all_first_by : (P : X → Type 0) (seen xs : List X) (x : X) (test : Bool) → AllByRecursion P seen → P x → ((s : List X) → AllByRecursion P s → AllByRecursion P (first s xs)) → AllByRecursion P (cond test (first seen xs) (first (seen ++ x ∷ []) xs))
  all_first_by P seen xs x true h k rest = rest seen h
  all_first_by P seen xs x false h k rest = rest (seen ++ x ∷ []) (both P seen (x ∷ []) h (k, tt))

  -- what holds of all of them holds of those that stand there then
  pub all_first : (P : X → Type 0) (seen xs : List X) → AllByRecursion P seen → AllByRecursion P xs → AllByRecursion P (first seen xs)
  all_first P seen [] h k = subst (AllByRecursion P) (sym (stop seen)) h
  all_first P seen (x ∷ xs) h k = subst (AllByRecursion P) (sym (go seen x xs)) (all_first_by P seen xs x (list_any (eq x) seen) h k.0 (λ s g. all_first P s xs g k.1))
