-- The first items of two lists, and equal atoms.
use Rattle.std.proofs.Common.{◌≡◌, ◌↔◌, IsTrue, ℕ, zero, suc, ◌+◌, ◌<◌, Bool, List, [], ◌∷◌, length, take, false, true, subst, arith}
use Rattle.std.specs.Prelude.{slice_get, Some}
use Rattle.me_terms.specs.Terms.{AtomValue}
use Rattle.me_terms.specs.TermEquality.{same_atom}
use Rattle.me_terms.specs.TermEqualityLaws.{same_atom_sound, same_atom_itself}

-- one more that is equal
pub more_same : {A : Type 0} (k : ℕ) (xs ys : List A) (x : A) → slice_get xs k ≡ Some x → slice_get ys k ≡ Some x → take k xs ≡ take k ys → take (suc k) xs ≡ take (suc k) ys
more_same zero [] ys x h g s = absurd (cc h)
more_same zero (a ∷ xs) [] x h g s = absurd (cc g)
more_same zero (a ∷ xs) (b ∷ ys) x h g s = cc (h, g)
more_same (suc k) [] ys x h g s = absurd (cc h)
more_same (suc k) (a ∷ xs) [] x h g s = absurd (cc g)
more_same (suc k) (a ∷ xs) (b ∷ ys) x h g s = let later = more_same k xs ys x h g (cc s) in cc (s, later)

pub more_by_one : {A : Type 0} (k : ℕ) (xs ys : List A) (x : A) → slice_get xs k ≡ Some x → slice_get ys k ≡ Some x → take k xs ≡ take k ys → take (k + 1) xs ≡ take (k + 1) ys
more_by_one k xs ys x h g s =
    let one : suc k ≡ k + 1 = omega arith in
    let P : ℕ → Type 0 = λ z. take z xs ≡ take z ys in
    subst P one (more_same k xs ys x h g s)

-- the position of an item
pub within : {A : Type 0} (k : ℕ) (xs : List A) (x : A) → slice_get xs k ≡ Some x → k < length xs
within zero [] x h = absurd (cc h)
within zero (a ∷ xs) x h = omega arith
within (suc k) [] x h = absurd (cc h)
within (suc k) (a ∷ xs) x h = let later = within k xs x h in omega (arith, later)

-- the last of them
pub same_last : {A : Type 0} (k : ℕ) (xs ys : List A) (x y : A) → slice_get xs k ≡ Some x → slice_get ys k ≡ Some y → take (suc k) xs ≡ take (suc k) ys → x ≡ y
same_last zero [] ys x y h g s = absurd (cc h)
same_last zero (a ∷ xs) [] x y h g s = absurd (cc g)
same_last zero (a ∷ xs) (b ∷ ys) x y h g s = cc (h, g, s)
same_last (suc k) [] ys x y h g s = absurd (cc h)
same_last (suc k) (a ∷ xs) [] x y h g s = absurd (cc g)
same_last (suc k) (a ∷ xs) (b ∷ ys) x y h g s = same_last k xs ys x y h g (cc s)

-- `==` of atoms
pub same_atoms : (a b : AtomValue) → IsTrue (same_atom a b) ↔ (a ≡ b)
same_atoms a b = (λ h. same_atom_sound a b h, λ is. let P : AtomValue → Type 0 = λ z. same_atom a z ≡ true in subst P is (same_atom_itself a))

pub not_both : {A : Type 0} (b : Bool) → b ≡ true → b ≡ false → A
not_both b h g = absurd (cc (h, g))
