-- The positions of a tuple with a skipped place.
use Rattle.std.proofs.Common.{◌≡◌, ℕ, zero, suc, ◌+◌, ◌-◌, ◌<◌, ◌≤◌, List, [], ◌∷◌, length, map, slice_get, Option, Some, None, refl, sym, ap, ◌∙◌, arith}
use Rattle.std.specs.List.{insert}
use Rattle.std.proofs.lemmas.List.{length-map}
use Rattle.std.proofs.lemmas.Option.{same_Some}
use Rattle.me_terms.specs.Positions.{positions_of}
use Rattle.joint_unifiers.specs.Places.{IsPlaceOf}

pub after_skip : {A : Type 0} (xs : List A) (skip i : ℕ) (x : A) → skip ≤ i → skip ≤ length xs → slice_get (insert xs skip x) (suc i) ≡ slice_get xs i
after_skip [] zero i x lt le = refl
after_skip [] (suc skip) i x lt le = absurd (omega arith)
after_skip (y ∷ xs) zero i x lt le = refl
after_skip (y ∷ xs) (suc skip) zero x lt le = absurd (omega arith)
after_skip (y ∷ xs) (suc skip) (suc i) x lt le = after_skip xs skip i x (omega arith) (omega arith)

-- ---- the position at a place
with_one : {A : Type 0} (xs : List A) (i : ℕ) (x : A) → length (insert xs i x) ≡ length xs + 1
with_one [] zero x = refl
with_one [] (suc i) x = refl
with_one (y ∷ xs) zero x = omega arith
with_one (y ∷ xs) (suc i) x = let rest = with_one xs i x in omega arith

some_there : (tuple : List ℕ) (i : ℕ) → i < length tuple → slice_get (map Some tuple) i ≡ Some (slice_get tuple i)
some_there [] i lt = absurd (omega arith)
some_there (k ∷ tuple) zero lt = refl
some_there (k ∷ tuple) (suc i) lt = some_there tuple i (omega arith)

shifted : (r s : ℕ) (tuple : List ℕ) → Some r ≡ Some s → r < length (positions_of (Some r) tuple) → (r ≡ s) × (r ≤ length (map Some tuple))
shifted r s tuple is lt = (same_Some r s is, omega (arith, with_one (map Some tuple) r None))

pub position_after : (skip : Option ℕ) (tuple : List ℕ) (s place : ℕ) (found : Option ℕ) → skip ≡ Some s → IsPlaceOf skip (length (positions_of skip tuple)) → place < length (positions_of skip tuple) → s < place → found ≡ slice_get tuple (place - 1)
    → slice_get (positions_of skip tuple) place ≡ Some found
position_after None tuple s place found is skipped within lt e = cc
position_after (Some r) tuple s zero found is skipped within lt e = absurd (omega arith)
position_after (Some r) tuple s (suc i) found is skipped within lt e =
    let z = shifted r s tuple is skipped in
    let back : suc i - 1 ≡ i = omega arith in
    let long = with_one (map Some tuple) r None in
    let here : i < length tuple = omega (arith, length-map tuple (λ (k : ℕ). Some k)) in
    after_skip (map Some tuple) r i None (omega arith) z.1 ∙ (some_there tuple i here ∙ ap Some (sym (e ∙ ap (λ k. slice_get tuple k) back)))
