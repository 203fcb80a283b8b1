use Rattle.me_unify.specs.Indexed.{found_in}
use Rattle.me_unify.proofs.Indexed.{none_indexed}
use Rattle.me_unify.proofs.node_list.NodeList.new.Goals as goal

pub invariant_of-result : goal.invariant_of-result
invariant_of-result c = none_indexed c.new.result.items (found_in c.new-2.result) c.new.ensures.items c.new-2.ensures
