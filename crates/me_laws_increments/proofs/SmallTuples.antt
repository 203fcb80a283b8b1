-- Tuples with their pivots, and places of which some are filled.
use Rattle.std.proofs.Common.{◌≡◌, ℕ, zero, suc, ◌<◌, ◌≤◌, [], ◌∷◌, slice_get, Some, None, refl, arith}
use Rattle.std.proofs.lemmas.Option.{same_Some}
use Rattle.me_laws_increments.specs.Prefixes.{IsPart}
use Rattle.me_laws_increments.specs.SmallTuples.{SmallTuplesExample}

smaller_before : (j k : ℕ) → j < 1 → slice_get (1 ∷ 3 ∷ 3 ∷ 2 ∷ []) j ≡ Some k → k < 3
smaller_before zero k lt e = let same = same_Some 1 k e in omega (arith, same)
smaller_before (suc j) k lt e = absurd (omega (arith, lt))

none_greater : (j k : ℕ) → slice_get (1 ∷ 3 ∷ 3 ∷ 2 ∷ []) j ≡ Some k → k ≤ 3
none_greater zero k e = let same = same_Some 1 k e in omega (arith, same)
none_greater (suc zero) k e = let same = same_Some 3 k e in omega (arith, same)
none_greater (suc (suc zero)) k e = let same = same_Some 3 k e in omega (arith, same)
none_greater (suc (suc (suc zero))) k e = let same = same_Some 2 k e in omega (arith, same)
none_greater (suc (suc (suc (suc j)))) k e = cc e

second_place : IsPart (None ∷ Some 3 ∷ []) (Some 1 ∷ Some 3 ∷ [])
second_place zero k e = let same : None ≡ Some k = same_Some None (Some k) e in cc same
second_place (suc zero) k e = e
second_place (suc (suc i)) k e = cc e

pub small_tuples_example : SmallTuplesExample
small_tuples_example = record { pivot = record { at = refl; before = smaller_before; greatest = none_greater }; part = second_place }
