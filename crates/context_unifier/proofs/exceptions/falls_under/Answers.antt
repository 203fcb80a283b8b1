use Rattle.context_unifier.proofs.exceptions.falls_under.Goals as goal

pub returns-in-Of-clause-exact : goal.returns-in-Of-clause-exact
returns-in-Of-clause-exact c = rw c.in-Of.is c.is_instance.ensures.exact
