use Rattle.std.proofs.Common.{◌≡◌, ℕ, [], ◌<◌, ◌≤◌, get_or}
use Rattle.me_unify.specs.Walked.{IsWalk}
use Rattle.me_unify.proofs.links.Links.ordered.Given as goal

abbrev pub invariant-loop-x : goal.invariant-loop-x
invariant-loop-x l = record {
  walk : IsWalk l.nodes l.self l.walk;
  none : l.walk.stack.items ≡ [];
  seen : (y : ℕ) → y < l.x → 1 ≤ get_or l.walk.order.items y 0;
}
