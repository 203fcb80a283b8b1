use Rattle.std.proofs.Common.{◌≡◌, ◌+◌, ◌≤◌, drop}
use Rattle.me_terms.specs.Measures.{list_weight}
use Rattle.instance_lists.proofs.weight.left_beside.Given as goal

-- What is left for the rest of the list is what is left for the whole, without the weight of those before.
abbrev pub invariant-loop-instance : goal.invariant-loop-instance
invariant-loop-instance l = record {
  counted : l.left + list_weight l.list ≡ l.bound + list_weight (drop l.instance-index l.list);
  within : l.left ≤ l.bound;
}
