use Rattle.std.proofs.Common.{◌≤◌, ◌↔◌, length, drop}
use Rattle.me_terms.specs.Order.{Precedes}
use Rattle.candidate_keys.proofs.order.list_precedes.Given as goal

-- What is left of the lists decides.
abbrev pub invariant-loop-k : goal.invariant-loop-k
invariant-loop-k l = record {
  within : l.k ≤ length l.other;
  rest : Precedes (drop l.k l.list) (drop l.k l.other) ↔ Precedes l.list l.other;
}
