use Rattle.candidate_store.proofs.store.Store.pairs.Goals as goal

pub returns : goal.returns
returns c problem bounds context given = let stands = rw (← c.self.view_is) at given in stands.kept.pairs
