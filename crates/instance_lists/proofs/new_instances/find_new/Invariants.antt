use Rattle.std.proofs.Common.{◌≡◌, ◌++◌, take, drop}
use Rattle.instance_lists.specs.News.{news}
use Rattle.instance_lists.proofs.Known.{Knows}
use Rattle.instance_lists.proofs.new_instances.find_new.Given as goal

abbrev pub invariant-loop-instance : goal.invariant-loop-instance
invariant-loop-instance l = Knows (λ q. q.now) l.known (take l.instance-index l.list)

-- The marks so far and those of what is left give the whole.
abbrev pub invariant-loop-instance-2 : goal.invariant-loop-instance-2
invariant-loop-instance-2 l = record {
  known : Knows (λ q. q.now) l.known (l.list ++ take l.instance-index l.more);
  found : l.marks.items ++ news (l.list ++ take l.instance-index l.more) (drop l.instance-index l.more) ≡ news l.list l.more;
}
