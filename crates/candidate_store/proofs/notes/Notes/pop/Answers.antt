use Rattle.candidate_store.proofs.notes.Notes.pop.Goals as goal

pub pop-requires : goal.pop-requires
pop-requires c =
    let notes = rw (← c.self.view_is) at c.requires.fits in
    record { fits = (notes.0, notes.1, notes.2.hiding) }

pub returns : goal.returns
returns c context e given =
    let notes = rw (← c.self.view_is) at given in
    record { hiding = c.pop.ensures context e notes.hiding; entries = c.leave.ensures context e notes.entries }
