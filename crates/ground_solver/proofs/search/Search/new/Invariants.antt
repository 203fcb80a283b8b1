use Rattle.std.proofs.Common.{◌≡◌, ℕ, None, length}
use Rattle.ground_solver.specs.Standings.{value_at}
use Rattle.ground_solver.proofs.search.Search.new.Given as goal

-- The values so far are none.
abbrev pub invariant-values : goal.invariant-values
invariant-values l = record {
  size : length l.values.items ≡ l.counter;
  none : (a : ℕ) → value_at l.values.items a ≡ None;
}
