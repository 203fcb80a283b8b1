-- Tuples of one length as numbers: later tuples have greater numbers, so that few are left behind each.
use Rattle.std.proofs.Common.{◌≡◌, ℕ, zero, suc, ◌+◌, ◌-◌, ◌*◌, ◌<◌, inl, inr, List, [], ◌∷◌, length, map, take, drop, Option, Some, None, refl, sym, subst, ap, ◌∙◌, arith, length-append}
use Rattle.std.proofs.lemmas.List.{length-take, length-drop, length-map}
use Rattle.std.specs.List.{insert}
use Rattle.std.proofs.lemmas.Nat.{mul-add-lt}
use Rattle.me_terms.specs.Context.{Context}
use Rattle.me_terms.specs.Positions.{positions_of, AreOpposite}
use Rattle.me_terms.specs.Order.{Precedes}
use Rattle.me_terms.specs.declared.atom.Literal.{Literal}
use Rattle.me_laws_existence.proofs.Codes.{Within}
use Rattle.me_laws_existence.proofs.Opposed.{tuple_within}
use Rattle.tuple_search.specs.declared.limits.Limits.{Limits}
use Rattle.tuple_search.specs.Enumeration.{IsNextTuple}

-- how many tuples of so many positions below n there are
abbrev pub tuples : ℕ → ℕ → ℕ
tuples n zero = 1
tuples n (suc k) = tuples n k * n

-- how many of them come before the tuple
abbrev pub code : ℕ → List ℕ → ℕ
code n [] = 0
code n (x ∷ xs) = x * tuples n (length xs) + code n xs

code_below : (n : ℕ) (xs : List ℕ) → Within n xs → code n xs < tuples n (length xs)
code_below n [] h = omega arith
code_below n (x ∷ xs) h =
    let later = code_below n xs h.1 in
    let first = h.0 in
    let all = mul-add-lt x (tuples n (length xs)) (code n xs) n first later in
    omega (arith, all)

code_first : (n x y : ℕ) (xs ys : List ℕ) → length xs ≡ length ys → Within n xs → x < y → code n (x ∷ xs) < code n (y ∷ ys)
code_first n x y xs ys l h f =
    let later = code_below n xs h in
    let all = mul-add-lt x (tuples n (length xs)) (code n xs) y f later in
    let same : tuples n (length xs) * y ≡ tuples n (length ys) * y = ap (λ k. tuples n k * y) l in
    omega (arith, all, same)

code_rest : (n x y : ℕ) (xs ys : List ℕ) → length xs ≡ length ys → x ≡ y → code n xs < code n ys → code n (x ∷ xs) < code n (y ∷ ys)
code_rest n x y xs ys l e later =
    let same : x * tuples n (length xs) ≡ y * tuples n (length ys) = λ i. e i * tuples n (l i) in
    omega (arith, later, same)

code_less : (n : ℕ) (xs ys : List ℕ) → length xs ≡ length ys → Within n xs → Within n ys → Precedes xs ys → ¬ (ys ≡ xs) → code n xs < code n ys
code_less n [] [] l h g f apart = absurd (apart refl)
code_less n [] (y ∷ ys) l h g f apart = absurd (omega (arith, l))
code_less n (x ∷ xs) [] l h g f apart = absurd f
code_less n (x ∷ xs) (y ∷ ys) l h g (inl f) apart = code_first n x y xs ys (omega (arith, l)) h.1 f
code_less n (x ∷ xs) (y ∷ ys) l h g (inr f) apart =
    let e : x ≡ y = f.0 in
    code_rest n x y xs ys (omega (arith, l)) e (code_less n xs ys (omega (arith, l)) h.1 g.1 f.1 (λ same. apart (cc (e, same))))

-- ---- the tuples of a clause's places
insert_long : {A : Type 0} (xs : List A) (k : ℕ) (x : A) → length (insert xs k x) ≡ suc (length xs)
insert_long xs k x =
    let whole = length-append (take k xs) (x ∷ drop k xs) in
    let front = length-take k xs in
    let back = length-drop k xs in
    omega (arith, whole, front, back)

-- how many positions a tuple has
abbrev pub width : Option ℕ → List Literal → ℕ
width None literals = length literals
width (Some skip) literals = length literals - 1

pub tuple_width : (context : Context) (literals : List Literal) (skip : Option ℕ) (tuple : List ℕ) → AreOpposite context literals (positions_of skip tuple) → length tuple ≡ width skip literals
tuple_width context literals None tuple h =
    let all = h.each_place in
    let mapped = length-map tuple (λ (k : ℕ). Some k) in
    omega (arith, all, mapped)
tuple_width context literals (Some skip) tuple h =
    let all = h.each_place in
    let mapped = length-map tuple (λ (k : ℕ). Some k) in
    let inserted = insert_long (map (λ (k : ℕ). Some k) tuple) skip None in
    omega (arith, all, mapped, inserted)

-- a bound on the tuples that are left behind a cursor
abbrev pub tuples_left : ℕ → ℕ → Option (List ℕ) → ℕ
tuples_left n width None = tuples n width + 1
tuples_left n width (Some a) = tuples n width - code n a

-- a cursor stands at a tuple of visible entries of the opposite signs, once it has begun
abbrev pub StandsAtOne : Context → List Literal → Option ℕ → Option (List ℕ) → Type 0
StandsAtOne context literals skip None = Unit {0}
StandsAtOne context literals skip (Some a) = AreOpposite context literals (positions_of skip a)

code_within : (context : Context) (literals : List Literal) (skip : Option ℕ) (tuple : List ℕ) → AreOpposite context literals (positions_of skip tuple) → code (length context) tuple < tuples (length context) (width skip literals)
code_within context literals skip tuple h =
    let P : ℕ → Type 0 = λ z. code (length context) tuple < tuples (length context) z in
    subst P (tuple_width context literals skip tuple h) (code_below (length context) tuple (tuple_within context literals skip tuple h))

pub fewer_left : (context : Context) (literals : List Literal) (skip : Option ℕ) (limits : Limits) (at : Option (List ℕ)) (next : List ℕ) → StandsAtOne context literals skip at → IsNextTuple context literals skip limits at next → tuples_left (length context) (width skip literals) (Some next) < tuples_left (length context) (width skip literals) at
fewer_left context literals skip limits None next stands is_next =
    let below = code_within context literals skip next is_next.unifier.1.opposite in
    omega (arith, below)
fewer_left context literals skip limits (Some a) next stands is_next =
    let o = stands in
    let p = is_next.unifier.1.opposite in
    let below = code_within context literals skip next p in
    let less = code_less (length context) a next (tuple_width context literals skip a o ∙ sym (tuple_width context literals skip next p)) (tuple_within context literals skip a o) (tuple_within context literals skip next p) is_next.later.0 is_next.later.1 in
    omega (arith, below, less)
