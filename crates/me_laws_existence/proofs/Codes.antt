-- Finite lists of all clauses, places and tuples of positions.
use Rattle.std.proofs.Common.{◌≡◌, ℕ, zero, suc, ◌<◌, ◌⊎◌, inl, inr, List, [], ◌∷◌, ◌++◌, map, length, refl, sym, subst, ap, arith}
use Rattle.me_laws_existence.proofs.Best.{Among, compared}

abbrev pub Code : Type 0
Code = ℕ × ℕ × List ℕ

abbrev below : ℕ → List ℕ
below zero = []
below (suc n) = n ∷ below n

among_below : (k n : ℕ) → k < n → Among k (below n)
among_below k zero h = absurd (omega (arith, h))
among_below k (suc n) h =
    elim (compared k n) as (λ _. (n ≡ k) ⊎ Among k (below n)) [
      | inl less ↦ inr (among_below k n less)
      | inr g ↦ inl (elim g as (λ _. n ≡ k) [ inl e ↦ sym e | inr more ↦ absurd (omega (arith, h, more)) ])
    ]

flat : {A B : Type 0} → List A → (A → List B) → List B
flat [] f = []
flat (x ∷ xs) f = f x ++ flat xs f

among_left : {A : Type 0} (a : A) (xs ys : List A) → Among a xs → Among a (xs ++ ys)
among_left a [] ys h = absurd h
among_left a (x ∷ xs) ys (inl e) = inl e
among_left a (x ∷ xs) ys (inr h) = inr (among_left a xs ys h)

among_right : {A : Type 0} (a : A) (xs ys : List A) → Among a ys → Among a (xs ++ ys)
among_right a [] ys h = h
among_right a (x ∷ xs) ys h = inr (among_right a xs ys h)

among_flat : {A B : Type 0} (a : A) (b : B) (xs : List A) (f : A → List B) → Among a xs → Among b (f a) → Among b (flat xs f)
unfolding flat
among_flat a b [] f h g = absurd h
among_flat {A} a b (x ∷ xs) f (inl e) g = let P : A → Type 0 = λ z. Among b (f z) in among_left b (f x) (flat xs f) (subst P (sym e) g)
among_flat a b (x ∷ xs) f (inr h) g = among_right b (f x) (flat xs f) (among_flat a b xs f h g)

among_map : {A B : Type 0} (f : A → B) (a : A) (xs : List A) → Among a xs → Among (f a) (map f xs)
among_map f a [] h = absurd h
among_map f a (x ∷ xs) (inl e) = inl (ap f e)
among_map f a (x ∷ xs) (inr h) = inr (among_map f a xs h)

-- each position is below the bound
abbrev pub Within : ℕ → List ℕ → Type 0
Within n [] = Unit {0}
Within n (k ∷ tuple) = (k < n) × Within n tuple

tuples : ℕ → ℕ → List (List ℕ)
tuples n zero = [] ∷ []
tuples n (suc long) = flat (below n) (λ k. map (λ (tuple : List ℕ). k ∷ tuple) (tuples n long))

among_tuples : (n long : ℕ) (tuple : List ℕ) → length tuple ≡ long → Within n tuple → Among tuple (tuples n long)
unfolding tuples
among_tuples n zero [] e h = inl refl
among_tuples n zero (k ∷ tuple) e h = absurd (omega (arith, e))
among_tuples n (suc long) [] e h = absurd (omega (arith, e))
among_tuples n (suc long) (k ∷ tuple) e h =
    among_flat k (k ∷ tuple) (below n) (λ j. map (λ (t : List ℕ). j ∷ t) (tuples n long)) (among_below k n h.0)
    (among_map (λ (t : List ℕ). k ∷ t) tuple (tuples n long) (among_tuples n long tuple (omega (arith, e)) h.1))

pub codes : ℕ → ℕ → ℕ → List Code
codes clauses long n =
    flat (below clauses) (λ c. flat (below long) (λ place. flat (below long) (λ size. map (λ (t : List ℕ). (c, place, t)) (tuples n size))))

pub among_codes : (clauses long n c place : ℕ) (tuple : List ℕ) → c < clauses → place < long → length tuple < long → Within n tuple → Among (c, place, tuple) (codes clauses long n)
unfolding codes
among_codes clauses long n c place tuple at within short positions =
    let last : Among (c, place, tuple) (map (λ (t : List ℕ). (c, place, t)) (tuples n (length tuple))) = among_map (λ (t : List ℕ). (c, place, t)) tuple (tuples n (length tuple)) (among_tuples n (length tuple) tuple refl positions) in
    among_flat c (c, place, tuple) (below clauses) (λ c. flat (below long) (λ place. flat (below long) (λ size. map (λ (t : List ℕ). (c, place, t)) (tuples n size)))) (among_below c clauses at)
    (among_flat place (c, place, tuple) (below long) (λ place. flat (below long) (λ size. map (λ (t : List ℕ). (c, place, t)) (tuples n size))) (among_below place long within)
    (among_flat (length tuple) (c, place, tuple) (below long) (λ size. map (λ (t : List ℕ). (c, place, t)) (tuples n size)) (among_below (length tuple) long short) last))
