use Rattle.std.proofs.Common.{◌≡◌, ◌++◌, ◌≤◌, length}
use Rattle.std.specs.Vec.Iter.{into_iter_items}
use Rattle.instance_lists.proofs.merging.append.Given as goal

-- What was put at the end and what is left give the whole, and there is room for what is left.
abbrev pub invariant-loop-instance : goal.invariant-loop-instance
invariant-loop-instance l = record {
  all : l.into.items ++ into_iter_items l.instance-iterator ≡ l.fn.into.items ++ l.fn.list.items;
  room : length (into_iter_items l.instance-iterator) ≤ l.into.spare;
}
