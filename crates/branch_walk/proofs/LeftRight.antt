-- Left and right of nodes, and what that says of keys.
use Rattle.std.proofs.Common.{◌≡◌, ℕ, zero, suc, ◌*◌, ◌^◌, ◌<◌, ◌≤◌, true, false, [], ◌∷◌, ◌++◌, append-nil, subst, arith}
use Rattle.branch_core.specs.Paths.{Turns, key_bits, key, IsLeftOf}
use Rattle.branch_core.proofs.PathOrder.{more_right}

double : (n : ℕ) → 2 ^ (suc n) ≡ 2 * 2 ^ n
double n = grind arith

key_below : (n : ℕ) (turns : Turns) → key_bits n turns < 2 ^ n
key_below zero turns = omega arith
key_below (suc n) [] = omega (arith, key_below n [], double n)
key_below (suc n) (false ∷ turns) = omega (arith, key_below n turns, double n)
key_below (suc n) (true ∷ turns) = omega (arith, key_below n turns, double n)

bits_rise : (n : ℕ) (s t : Turns) → IsLeftOf s t → key_bits n s ≤ key_bits n t
bits_rise zero s t h = omega arith
bits_rise (suc n) [] t h = absurd h
bits_rise (suc n) (a ∷ s) [] h = absurd h
bits_rise (suc n) (false ∷ s) (false ∷ t) h = let more = bits_rise n s t h in omega (arith, more)
bits_rise (suc n) (false ∷ s) (true ∷ t) h = let below = key_below n s in omega (arith, below)
bits_rise (suc n) (true ∷ s) (false ∷ t) h = absurd h
bits_rise (suc n) (true ∷ s) (true ∷ t) h = let more = bits_rise n s t h in omega (arith, more)

-- to the right keys only rise
pub keys_rise : (s t : Turns) → IsLeftOf s t → key s ≤ key t
keys_rise s t h = bits_rise 16 s t h

-- what stands below a node is left of what the node is left of
pub below_left : (s u t : Turns) → IsLeftOf s t → IsLeftOf (s ++ u) t
below_left s u t h = let P : Turns → Type 0 = λ z. IsLeftOf (s ++ u) z in subst P (append-nil t) (more_right s t u [] h)

-- the left child's side is left of the right child's
pub children_apart : (t u v : Turns) → IsLeftOf (t ++ false ∷ u) (t ++ true ∷ v)
children_apart [] u v = tt
children_apart (false ∷ t) u v = children_apart t u v
children_apart (true ∷ t) u v = children_apart t u v
