use Rattle.std.proofs.Common.{◌≡◌, ◌++◌, drop, map, Some, ℕ}
use Rattle.ground_refutation.proofs.places.places_of.Given as goal

-- What is copied and what is left are the tuple's positions.
abbrev pub invariant-loop-k : goal.invariant-loop-k
invariant-loop-k l = l.positions.items ++ map (λ (k : ℕ). Some k) (drop l.k-index l.k-items) ≡ map (λ (k : ℕ). Some k) l.k-items
