use Rattle.std.proofs.Common.{◌+◌, ◌-◌, length, vec_len}
use Rattle.ground_solver.specs.Underway.{IsOnward, free}
use Rattle.ground_solver.proofs.propagation.Watches.propagate.Given as goal

abbrev pub invariant-short : goal.invariant-short
invariant-short l = IsOnward l.clauses l.fn.search l.search

abbrev pub decreases-short : goal.decreases-short
decreases-short l = vec_len l.self.short

abbrev pub invariant-queue : goal.invariant-queue
invariant-queue l = IsOnward l.clauses l.fn.search l.search

-- Each atom is put on the trail at most once.
abbrev pub decreases-queue : goal.decreases-queue
decreases-queue l = (free l.search.values.items + length l.search.trail.items) - l.search.head
