use Rattle.std.proofs.Common.{ℕ, ◌+◌, ◌*◌, ◌<◌, ◌≤◌, length, get_or, eqb}
use Rattle.std.specs.List.{count_by}
use Rattle.me_unify.specs.Walked.{IsWalk}
use Rattle.me_unify.proofs.walk.Walk.visit.Given as goal

abbrev pub invariant-open : goal.invariant-open
invariant-open l = record {
  walk : IsWalk l.nodes l.links l.self;
  seen : (y : ℕ) → y < length l.nodes → 1 ≤ get_or l.initial.self.order.items y 0 → 1 ≤ get_or l.self.order.items y 0;
}

abbrev pub decreases-open : goal.decreases-open
decreases-open l = 2 * count_by (λ m. eqb m 0) l.self.order.items + length l.self.stack.items
