use Rattle.me_unify.proofs.Bound.{bound_none}
use Rattle.me_unify.proofs.bindings.Bindings.new.Goals as goal

pub invariant_of-result : goal.invariant_of-result
invariant_of-result c = bound_none c.new.result.nodes c.new.result.links c.new-2.result.items c.new.ensures.arena c.new.ensures.empty c.new.ensures.none c.new-2.ensures.items
