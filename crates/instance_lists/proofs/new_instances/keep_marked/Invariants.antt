use Rattle.std.proofs.Common.{◌≡◌, ◌++◌}
use Rattle.std.specs.Vec.Iter.{into_iter_items}
use Rattle.std.specs.Slice.Iter.{iter_rest}
use Rattle.instance_lists.specs.News.{kept_by_marks}
use Rattle.instance_lists.proofs.new_instances.keep_marked.Given as goal

-- What is kept and what is left give the whole.
abbrev pub invariant-loop-instance : goal.invariant-loop-instance
invariant-loop-instance l =
    l.kept.items ++ kept_by_marks (iter_rest l.instance-iterator.b) (into_iter_items l.instance-iterator.a) ≡ kept_by_marks l.marks l.fn.list.items
