-- The end of a context: what was added last.
use Rattle.std.proofs.Common.{◌≡◌, ◌+◌, [], ◌∷◌, length, slice_get, Some, refl, ap, arith}
use Rattle.me_terms.specs.Values.{EntryValue}
use Rattle.me_terms.specs.Context.{Context, add}

pub longer : (context : Context) (e : EntryValue) → length (add context e) ≡ length context + 1
longer [] e = omega arith
longer (x ∷ xs) e = let later = longer xs e in omega (arith, later)

rest : Context → Context
rest [] = []
rest (x ∷ xs) = xs

first : EntryValue → Context → EntryValue
first d [] = d
first d (x ∷ xs) = x

pub same_before : (xs ys : Context) (x y : EntryValue) → add xs x ≡ add ys y → xs ≡ ys
unfolding rest first
same_before [] [] x y h = refl
same_before [] (z ∷ ys) x y h = let many = ap length h in absurd (omega (arith, many, longer ys y))
same_before (w ∷ xs) [] x y h = let many = ap length h in absurd (omega (arith, many, longer xs x))
same_before (w ∷ xs) (z ∷ ys) x y h =
    let heads : w ≡ z = ap (first w) h in
    let tails : add xs x ≡ add ys y = ap rest h in
    let later = same_before xs ys x y tails in
    λ i. heads i ∷ later i

pub same_last : (xs ys : Context) (x y : EntryValue) → add xs x ≡ add ys y → x ≡ y
unfolding rest first
same_last [] [] x y h = ap (first x) h
same_last [] (z ∷ ys) x y h = let many = ap length h in absurd (omega (arith, many, longer ys y))
same_last (w ∷ xs) [] x y h = let many = ap length h in absurd (omega (arith, many, longer xs x))
same_last (w ∷ xs) (z ∷ ys) x y h = let tails : add xs x ≡ add ys y = ap rest h in same_last xs ys x y tails

pub stands_last : (context : Context) (e : EntryValue) → slice_get (add context e) (length context) ≡ Some e
stands_last [] e = refl
stands_last (x ∷ xs) e = stands_last xs e
