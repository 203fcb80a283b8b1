use Rattle.me_terms.proofs.Dropping.{popped_less}
use Rattle.me_terms.proofs.term.Terms.drop.Goals as goal

pub items-smaller-in-Var : goal.items-smaller-in-Var
items-smaller-in-Var c = popped_less c.pop.new.self.items c.items.items.items c.in-Some.term c.in-Some.ensures.items
