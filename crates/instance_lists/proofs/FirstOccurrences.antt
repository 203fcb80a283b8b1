-- First occurrences: they commute with a filter, joining is associative, and no list is lighter for being joined.
use Rattle.std.proofs.Common.{◌≡◌, ℕ, ◌+◌, ◌≤◌, Bool, true, false, not, ◌&&◌, ◌⊎◌, inl, inr, List, [], ◌∷◌, ◌++◌, append_assoc, refl, sym, subst, ap, ◌∙◌, arith}
use Rattle.std.specs.List.{filter}
use Rattle.std.proofs.lemmas.List.Elements.{filter-append}
use Rattle.std.proofs.lemmas.List.Sums.{sum_by-cons, sum_by-append}
use Rattle.me_terms.specs.Measures.{literals_weight, list_weight}
use Rattle.me_terms.specs.Values.{InstanceValue}
use Rattle.me_terms.specs.FirstOccurrences.{same_instance, first_occurrences, joined}
use Rattle.me_terms.specs.InstanceEqualityLaws.{instance_sound}

-- ---- filters
pub bool_cases : (b : Bool) → (b ≡ true) ⊎ (b ≡ false)
bool_cases true = inl refl
bool_cases false = inr refl

pub filter_swap : {X : Type 0} (p q : X → Bool) (xs : List X) → filter p (filter q xs) ≡ filter q (filter p xs)
filter_swap p q [] = refl
filter_swap p q (x ∷ xs) =
    elim (bool_cases (p x)) as (λ _. filter p (filter q (x ∷ xs)) ≡ filter q (filter p (x ∷ xs))) [
      | inl hp ↦ elim (bool_cases (q x)) as (λ _. filter p (filter q (x ∷ xs)) ≡ filter q (filter p (x ∷ xs))) [
        | inl hq ↦ simp (hp, hq) (λ i. x ∷ filter_swap p q xs i)
        | inr hq ↦ simp (hp, hq) (filter_swap p q xs)
      ]
      | inr hp ↦ elim (bool_cases (q x)) as (λ _. filter p (filter q (x ∷ xs)) ≡ filter q (filter p (x ∷ xs))) [
        | inl hq ↦ simp (hp, hq) (filter_swap p q xs)
        | inr hq ↦ simp (hp, hq) (filter_swap p q xs)
      ]
    ]

pub filter_again : {X : Type 0} (p : X → Bool) (xs : List X) → filter p (filter p xs) ≡ filter p xs
filter_again p [] = refl
filter_again p (x ∷ xs) =
    elim (bool_cases (p x)) as (λ _. filter p (filter p (x ∷ xs)) ≡ filter p (x ∷ xs)) [
      | inl hp ↦ simp hp (λ i. x ∷ filter_again p xs i)
      | inr hp ↦ simp hp (filter_again p xs)
    ]

filter_fuse : {X : Type 0} (p q : X → Bool) (xs : List X) → filter p (filter q xs) ≡ filter (λ z. q z && p z) xs
filter_fuse p q [] = refl
filter_fuse p q (x ∷ xs) =
    elim (bool_cases (q x)) as (λ _. filter p (filter q (x ∷ xs)) ≡ filter (λ z. q z && p z) (x ∷ xs)) [
      | inl hq ↦ elim (bool_cases (p x)) as (λ _. filter p (filter q (x ∷ xs)) ≡ filter (λ z. q z && p z) (x ∷ xs)) [
        | inl hp ↦ simp (hp, hq) (λ i. x ∷ filter_fuse p q xs i)
        | inr hp ↦ simp (hp, hq) (filter_fuse p q xs)
      ]
      | inr hq ↦ simp hq (filter_fuse p q xs)
    ]

-- all but the instances equal to i
abbrev pub others : InstanceValue → InstanceValue → Bool
others i j = not (same_instance i j)

filter_absorbs : (p : InstanceValue → Bool) (x : InstanceValue) (ys : List InstanceValue) → p x ≡ false → filter p (filter (others x) ys) ≡ filter p ys
filter_absorbs p x [] h = refl
filter_absorbs p x (y ∷ ys) h =
    elim (bool_cases (same_instance x y)) as (λ _. filter p (filter (others x) (y ∷ ys)) ≡ filter p (y ∷ ys)) [
      | inl e ↦
          let here : p y ≡ false = ap p (sym (instance_sound x y e)) ∙ h in
          simp (e, here) (filter_absorbs p x ys h)
      | inr e ↦ elim (bool_cases (p y)) as (λ _. filter p (filter (others x) (y ∷ ys)) ≡ filter p (y ∷ ys)) [
        | inl here ↦ simp (e, here) (λ i. y ∷ filter_absorbs p x ys h i)
        | inr here ↦ simp (e, here) (filter_absorbs p x ys h)
      ]
    ]

-- ---- first occurrences
pub first-filter : (p : InstanceValue → Bool) (xs : List InstanceValue) → first_occurrences (filter p xs) ≡ filter p (first_occurrences xs)
first-filter p [] = refl
first-filter p (x ∷ xs) =
    elim (bool_cases (p x)) as (λ _. first_occurrences (filter p (x ∷ xs)) ≡ filter p (first_occurrences (x ∷ xs))) [
      | inl hp ↦ simp hp (λ i. x ∷ (ap (filter (others x)) (first-filter p xs) ∙ filter_swap (others x) p (first_occurrences xs)) i)
      | inr hp ↦ simp hp (first-filter p xs ∙ sym (filter_absorbs p x (first_occurrences xs) hp))
    ]

pub first-again : (xs : List InstanceValue) → first_occurrences (first_occurrences xs) ≡ first_occurrences xs
first-again [] = refl
first-again (x ∷ xs) =
    λ i. x ∷ (ap (filter (others x)) (first-filter (others x) (first_occurrences xs)) ∙ (filter_again (others x) (first_occurrences (first_occurrences xs)) ∙ ap (filter (others x)) (first-again xs))) i

pub first-left : (xs ys : List InstanceValue) → first_occurrences (first_occurrences xs ++ ys) ≡ first_occurrences (xs ++ ys)
first-left [] ys = refl
first-left (x ∷ xs) ys =
    let k = others x in
    let zs = first_occurrences xs in
    let one : filter k (first_occurrences (filter k zs ++ ys)) ≡ first_occurrences (filter k (filter k zs ++ ys)) = sym (first-filter k (filter k zs ++ ys)) in
    let two : filter k (filter k zs ++ ys) ≡ filter k (zs ++ ys) =
    filter-append k (filter k zs) ys ∙ (ap (λ (ws : List InstanceValue). ws ++ filter k ys) (filter_again k zs) ∙ sym (filter-append k zs ys)) in
    let three : filter k (first_occurrences (filter k zs ++ ys)) ≡ filter k (first_occurrences (xs ++ ys)) =
    one ∙ (ap first_occurrences two ∙ (first-filter k (zs ++ ys) ∙ ap (filter k) (first-left xs ys))) in
    λ i. x ∷ three i

pub first-right : (xs ys : List InstanceValue) → first_occurrences (xs ++ first_occurrences ys) ≡ first_occurrences (xs ++ ys)
first-right [] ys = first-again ys
first-right (x ∷ xs) ys = λ i. x ∷ filter (others x) (first-right xs ys i)

pub joined-assoc : (a b c : List InstanceValue) → joined (joined a b) c ≡ joined a (joined b c)
joined-assoc a b c =
    first-left (a ++ b) c ∙ (ap first_occurrences (append_assoc a b c) ∙ sym (first-right a (b ++ c)))

-- ---- weights
first_prefix : (xs ys : List InstanceValue) → (rest : List InstanceValue) × (first_occurrences (xs ++ ys) ≡ first_occurrences xs ++ rest)
first_prefix [] ys = (first_occurrences ys, refl)
first_prefix (x ∷ xs) ys =
    let later = first_prefix xs ys in
    let k = others x in
    (filter k later.0, λ i. x ∷ (ap (filter k) later.1 ∙ filter-append k (first_occurrences xs) later.0) i)

weight : InstanceValue → ℕ
weight i = literals_weight i.literals

pub weight-left : (xs ys : List InstanceValue) → list_weight (first_occurrences xs) ≤ list_weight (first_occurrences (xs ++ ys))
weight-left xs ys =
    let p = first_prefix xs ys in
    rw (p.1) (omega (arith, sum_by-append (λ (i : InstanceValue). literals_weight i.literals) (first_occurrences xs) p.0))

-- with an instance more before it, the rest of a list is no heavier
one_more : (x : InstanceValue) (ys : List InstanceValue) (q : InstanceValue → Bool) → list_weight (filter q (first_occurrences ys)) ≤ literals_weight x.literals + list_weight (filter (others x) (filter q (first_occurrences ys)))
one_more x [] q = omega arith
one_more x (y ∷ ys) q =
    let zs = first_occurrences ys in
    let w = λ (i : InstanceValue). literals_weight i.literals in
    let fused : filter q (filter (others y) zs) ≡ filter (λ z. others y z && q z) zs = filter_fuse q (others y) zs in
    let P : List InstanceValue → Type 0 = λ ws. list_weight ws ≤ w x + list_weight (filter (others x) ws) in
    let below : P (filter q (filter (others y) zs)) = subst P (sym fused) (one_more x ys (λ z. others y z && q z)) in
    elim (bool_cases (q y)) as (λ _. P (filter q (y ∷ filter (others y) zs))) [
      | inl hq ↦ elim (bool_cases (same_instance x y)) as (λ _. P (filter q (y ∷ filter (others y) zs))) [
        | inl e ↦
            let same : x ≡ y = instance_sound x y e in
            let rest = filter q (filter (others y) zs) in
            let kept : filter (others x) rest ≡ rest =
            ap (λ (i : InstanceValue). filter (others i) rest) same ∙ (filter_swap (others y) q (filter (others y) zs) ∙ ap (filter q) (filter_again (others y) zs)) in
            let light : w x ≡ w y = ap w same in
            simp (hq, e) (rw kept (omega (arith, sum_by-cons w y rest, light)))
        | inr e ↦
            let rest = filter q (filter (others y) zs) in
            simp (hq, e) (omega (arith, sum_by-cons w y rest, sum_by-cons w y (filter (others x) rest), below))
      ]
      | inr hq ↦ simp hq below
    ]

pub filter_all : {X : Type 0} (xs : List X) → filter (λ _. true) xs ≡ xs
filter_all [] = refl
filter_all (x ∷ xs) = λ i. x ∷ filter_all xs i

pub weight-right : (xs ys : List InstanceValue) → list_weight (first_occurrences ys) ≤ list_weight (first_occurrences (xs ++ ys))
weight-right [] ys = omega arith
weight-right (x ∷ xs) ys =
    let zs = first_occurrences (xs ++ ys) in
    let w = λ (i : InstanceValue). literals_weight i.literals in
    let P : List InstanceValue → Type 0 = λ ws. list_weight ws ≤ w x + list_weight (filter (others x) ws) in
    let step : P zs = subst P (filter_all zs) (one_more x (xs ++ ys) (λ _. true)) in
    omega (arith, sum_by-cons w x (filter (others x) zs), step, weight-right xs ys)
