use Rattle.me_unify.specs.Indexed.{found_in}
use Rattle.me_unify.proofs.Indexed.{pop_indexed}
use Rattle.me_unify.proofs.node_list.NodeList.pop.Goals as goal

pub invariant_of-self : goal.invariant_of-self
invariant_of-self c =
    pop_indexed c.self.inside.items.items c.pop.new.self.items c.in-Some.node (found_in c.self.inside.variables) (found_in c.forget.new.variables) c.in-Some.ensures.items c.self.invariant c.forget.ensures
