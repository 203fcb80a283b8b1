use Rattle.std.proofs.Common.{◌≡◌, length, take}
use Rattle.me_unify.proofs.node_list.NodeList.truncate.Given as goal

abbrev pub invariant-nodes : goal.invariant-nodes
invariant-nodes l = take l.size l.self ≡ take l.size l.initial.self

abbrev pub decreases-nodes : goal.decreases-nodes
decreases-nodes l = length l.self
