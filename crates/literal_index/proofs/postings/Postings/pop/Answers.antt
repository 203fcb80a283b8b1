use Rattle.literal_index.proofs.Listed.{pop_listed}
use Rattle.literal_index.proofs.postings.Postings.pop.Goals as goal

pub invariant_of-self : goal.invariant_of-self
invariant_of-self c =
    pop_listed c.self.inside.keys.items c.pop.new.self.items c.in-Some.key c.self.inside.lists.entries c.take_key.new.lists.entries c.in-Some.ensures.items c.self.invariant c.take_key.ensures
