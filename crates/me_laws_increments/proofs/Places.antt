-- Which position stands at which place of a clause.
use Rattle.std.proofs.Common.{◌≡◌, ℕ, zero, suc, ◌<◌, inl, inr, List, [], ◌∷◌, length, map, get_or, slice_get, Option, Some, None, refl, ap, arith}
use Rattle.std.specs.List.{insert, Contains}
use Rattle.std.proofs.lemmas.Option.{slice_get_cases}
use Rattle.me_terms.specs.Positions.{positions_of}

-- each position of a tuple stands at some place
some_at : (tuple : List ℕ) (i k : ℕ) → i < length tuple → get_or tuple i k ≡ k → slice_get (map Some tuple) i ≡ Some (Some k)
some_at [] i k lt e = absurd (omega arith)
some_at (x ∷ xs) zero k lt e = ap (λ (n : ℕ). Some (Some n)) e
some_at (x ∷ xs) (suc i) k lt e = some_at xs i k (omega (arith, lt)) e

inserted_at : (tuple : List ℕ) (skip i k : ℕ) → i < length tuple → get_or tuple i k ≡ k → (j : ℕ) × (slice_get (insert (map Some tuple) skip None) j ≡ Some (Some k))
inserted_at [] skip i k lt e = absurd (omega arith)
inserted_at (x ∷ xs) zero i k lt e = (suc i, some_at (x ∷ xs) i k lt e)
inserted_at (x ∷ xs) (suc skip) zero k lt e = (0, ap (λ (n : ℕ). Some (Some n)) e)
inserted_at (x ∷ xs) (suc skip) (suc i) k lt e =
    let rest = inserted_at xs skip i k (omega (arith, lt)) e in (suc rest.0, rest.1)

pub placed : (skip : Option ℕ) (tuple : List ℕ) (k : ℕ) → Contains tuple k → (i : ℕ) × (slice_get (positions_of skip tuple) i ≡ Some (Some k))
placed None tuple k h = (h.0, some_at tuple h.0 k h.1 h.2)
placed (Some skip) tuple k h = inserted_at tuple skip h.0 k h.1 h.2

pub there : {A : Type 0} (xs : List A) (i : ℕ) → i < length xs → (x : A) × (slice_get xs i ≡ Some x)
there {A = A} xs i lt = elim (slice_get_cases xs i).1 as (λ _. (x : A) × (slice_get xs i ≡ Some x)) [ inl h ↦ (h.0, h.2) | inr h ↦ let beyond = h.0 in absurd (omega (arith, lt, beyond)) ]

-- each place has a position, but for the skipped one
pub filled : (tuple : List ℕ) (i : ℕ) → i < length (map Some tuple) → (k : ℕ) × (slice_get (map Some tuple) i ≡ Some (Some k))
filled [] i lt = absurd (omega arith)
filled (x ∷ xs) zero lt = (x, refl)
filled (x ∷ xs) (suc i) lt = filled xs i (omega arith)

pub filled_beside : (tuple : List ℕ) (skip i : ℕ) → skip < length (insert (map Some tuple) skip None) → i < length (insert (map Some tuple) skip None) → ¬ (i ≡ skip) → (k : ℕ) × (slice_get (insert (map Some tuple) skip None) i ≡ Some (Some k))
filled_beside [] zero zero le lt other = absurd (other refl)
filled_beside [] zero (suc i) le lt other = absurd (omega (arith, lt))
filled_beside [] (suc skip) i le lt other = absurd (omega (arith, le))
filled_beside (x ∷ xs) zero zero le lt other = absurd (other refl)
filled_beside (x ∷ xs) zero (suc i) le lt other = filled (x ∷ xs) i (omega (arith, lt))
filled_beside (x ∷ xs) (suc skip) zero le lt other = (x, refl)
filled_beside (x ∷ xs) (suc skip) (suc i) le lt other = filled_beside xs skip i (omega (arith, le)) (omega (arith, lt)) (λ e. other (ap suc e))
