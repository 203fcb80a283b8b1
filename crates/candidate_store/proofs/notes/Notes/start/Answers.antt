use Rattle.candidate_store.proofs.notes.Notes.start.Goals as goal

pub returns : goal.returns
returns c positive = record { hiding = c.in_ok-hiding.ensures _; entries = c.in_ok-entries.ensures positive }
