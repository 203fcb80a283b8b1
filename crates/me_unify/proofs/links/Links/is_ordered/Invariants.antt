use Rattle.std.proofs.Common.{◌≡◌, ℕ, [], ◌<◌, ◌≤◌, get_or}
use Rattle.me_unify.specs.Walked.{IsWalk}
use Rattle.me_unify.proofs.links.Links.is_ordered.Given as goal

abbrev pub invariant-loop-k : goal.invariant-loop-k
invariant-loop-k l = record {
  walk : IsWalk l.nodes l.self l.walk;
  none : l.walk.stack.items ≡ [];
  seen : (j : ℕ) → l.mark ≤ j → j < l.k → 1 ≤ get_or l.walk.order.items (get_or l.self.froms.items j 0) 0;
}
