use Rattle.joint_unifiers.proofs.unifier.Unifier.remainder.Goals as goal

pub returns-clause-places : goal.returns-clause-places
returns-clause-places c = rw (← c.self.view_is) c.self.invariant.places
