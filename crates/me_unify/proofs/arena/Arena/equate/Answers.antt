use Rattle.me_unify.proofs.arena.Arena.equate.Goals as goal

pub returns-clause-yes : goal.returns-clause-yes
returns-clause-yes c = rw c.as_slice.ensures at c.equate.ensures.yes
