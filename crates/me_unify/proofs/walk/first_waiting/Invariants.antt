use Rattle.std.proofs.Common.{ℕ, ◌<◌, ◌≤◌, length, get_or}
use Rattle.me_unify.proofs.walk.first_waiting.Given as goal

abbrev pub invariant-loop-k : goal.invariant-loop-k
invariant-loop-k l = (i : ℕ) → i < l.k → i < length l.xs → 2 ≤ get_or l.order (get_or l.xs i 0) 0
