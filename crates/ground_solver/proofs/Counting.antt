-- How much is left to do falls at each change of the branch.
use Rattle.std.proofs.Common.{◌≡◌, ℕ, zero, suc, ◌+◌, ◌<◌, ◌≤◌, List, [], ◌∷◌, refl, subst, arith}
use Rattle.ground_solver.specs.Underway.{most, left_by}
use Rattle.ground_solver.specs.declared.search.Fixed.{Fixed}
use Rattle.ground_solver.specs.declared.search.Fixed.TheVariants.{Tried, Forced, Refuted}

pub most_suc : (n : ℕ) → most (suc n) ≡ most n + most n + 1
unfolding most
most_suc n = refl

pub most_positive : (n : ℕ) → 0 < most n
unfolding most
most_positive zero = omega arith
most_positive (suc n) = omega (arith, most_positive n)

pub most_grows : (n m : ℕ) → n ≤ m → most n ≤ most m
unfolding most
most_grows zero m le = omega (arith, most_positive m)
most_grows (suc n) zero le = absurd (omega arith)
most_grows (suc n) (suc m) le = let below : n ≤ m = omega arith in omega (arith, most_grows n m below)

pub left_grows : (n m : ℕ) (branch : List Fixed) → n ≤ m → left_by n branch ≤ left_by m branch
unfolding left_by
left_grows n m [] le = omega arith
left_grows n m (Tried a from ∷ rest) le = let more : suc n ≤ suc m = omega arith in omega (arith, most_grows n m le, left_grows (suc n) (suc m) rest more)
left_grows n m (Forced a by ∷ rest) le = let more : suc n ≤ suc m = omega arith in left_grows (suc n) (suc m) rest more
left_grows n m (Refuted a ∷ rest) le = let more : suc n ≤ suc m = omega arith in left_grows (suc n) (suc m) rest more

pub left_tried : (n a from : ℕ) (rest : List Fixed) → left_by n (Tried a from ∷ rest) ≡ most n + left_by (suc n) rest
unfolding left_by
left_tried n a from rest = refl

pub left_forced : (n a by : ℕ) (rest : List Fixed) → left_by n (Forced a by ∷ rest) ≡ left_by (suc n) rest
unfolding left_by
left_forced n a by rest = refl

pub left_refuted : (n a : ℕ) (rest : List Fixed) → left_by n (Refuted a ∷ rest) ≡ left_by (suc n) rest
unfolding left_by
left_refuted n a rest = refl

-- an atom gets a value
pub less_tried : (n m a from : ℕ) (branch : List Fixed) → m + 1 ≡ n → most m + left_by m (Tried a from ∷ branch) < most n + left_by n branch
less_tried n m a from branch e =
    let is : suc m ≡ n = omega arith in
    subst (λ (k : ℕ). most m + left_by m (Tried a from ∷ branch) < most k + left_by k branch) is (omega (arith, left_tried m a from branch, most_suc m))

pub less_forced : (n m a by : ℕ) (branch : List Fixed) → m + 1 ≡ n → most m + left_by m (Forced a by ∷ branch) < most n + left_by n branch
less_forced n m a by branch e =
    let is : suc m ≡ n = omega arith in
    subst (λ (k : ℕ). most m + left_by m (Forced a by ∷ branch) < most k + left_by k branch) is (omega (arith, left_forced m a by branch, most_suc m, most_positive m))

pub less_refuted : (n m a : ℕ) (branch : List Fixed) → m + 1 ≡ n → most m + left_by m (Refuted a ∷ branch) < most n + left_by n branch
less_refuted n m a branch e =
    let is : suc m ≡ n = omega arith in
    subst (λ (k : ℕ). most m + left_by m (Refuted a ∷ branch) < most k + left_by k branch) is (omega (arith, left_refuted m a branch, most_suc m, most_positive m))

-- the branch ends, and the last atom of it loses its value
pub left_cleared : (n m a by : ℕ) (rest : List Fixed) → m ≤ n + 1 → left_by m rest ≤ left_by n (Forced a by ∷ rest)
left_cleared n m a by rest le = let up : m ≤ suc n = omega arith in omega (arith, left_grows m (suc n) rest up, left_forced n a by rest)

pub left_cleared_refuted : (n m a : ℕ) (rest : List Fixed) → m ≤ n + 1 → left_by m rest ≤ left_by n (Refuted a ∷ rest)
left_cleared_refuted n m a rest le = let up : m ≤ suc n = omega arith in omega (arith, left_grows m (suc n) rest up, left_refuted n a rest)

-- the last atom that was tried is false from then on
pub left_turned : (n m a from : ℕ) (rest : List Fixed) → m ≤ n → most m + left_by m (Refuted a ∷ rest) ≤ left_by n (Tried a from ∷ rest)
left_turned n m a from rest le =
    let up : suc m ≤ suc n = omega arith in
    omega (arith, left_tried n a from rest, left_refuted m a rest, most_grows m n le, left_grows (suc m) (suc n) rest up)
