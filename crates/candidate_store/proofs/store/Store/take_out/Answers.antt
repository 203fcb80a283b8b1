use Rattle.candidate_store.proofs.store.Store.take_out.Goals as goal

pub leave-requires : goal.leave-requires
leave-requires c = let fits = rw (← c.self.view_is) at c.requires.fits in record { fits = (fits.0, fits.1, fits.2, fits.4, fits.5, fits.6) }

pub pop-requires : goal.pop-requires
pop-requires c = let fits = rw (← c.self.view_is) at c.requires.fits in record { fits = (fits.1, fits.2, fits.3) }
