use Rattle.std.proofs.Common.{◌+◌, ◌-◌, ◌≤◌, length}
use Rattle.steal_pool.proofs.deques.all_deques.Given as goal

abbrev pub invariant-loop-owns : goal.invariant-loop-owns
invariant-loop-owns g l = length l.owns.items ≤ l.count

abbrev pub decreases-loop-owns : goal.decreases-loop-owns
decreases-loop-owns g l = l.count - length l.owns.items

abbrev pub invariant-loop-own : goal.invariant-loop-own
invariant-loop-own g l = length l.all.items + length l.owns.items ≤ l.count

abbrev pub decreases-loop-own : goal.decreases-loop-own
decreases-loop-own g l = length l.owns.items
