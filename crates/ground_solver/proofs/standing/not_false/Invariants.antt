use Rattle.std.proofs.Common.{◌≡◌, ◌⊎◌, ℕ, ◌<◌, get_or}
use Rattle.ground_solver.specs.Standings.{IsFalseIn}
use Rattle.ground_solver.specs.declared.signed.Signed.{Signed}
use Rattle.ground_solver.proofs.standing.not_false.Given as goal

-- The literals so far are false but for the other one.
abbrev pub invariant-loop-k : goal.invariant-loop-k
invariant-loop-k l = (j : ℕ) (d : Signed) → j < l.k → (j ≡ l.other) ⊎ IsFalseIn l.values (get_or l.clause j d)
