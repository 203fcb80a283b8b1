use Rattle.std.proofs.Common.{◌≡◌, sym, subst}
use Rattle.entry_hiding.specs.Values.{HidingValue}
use Rattle.entry_hiding.specs.Hiding.{IsHidingOf}
use Rattle.literal_index.specs.Index.{IndexValue, IsIndex}
use Rattle.candidate_store.proofs.Stored.{any_err}
use Rattle.candidate_store.proofs.notes.Notes.add.Goals as goal

pub enter-requires : goal.enter-requires
enter-requires g c =
    let notes = rw (← c.self.view_is) at c.requires.fits in
    record { fits = (g.L.EntryList.entries c.args.list.now, notes.entries, c.requires.room) }

pub add-requires : goal.add-requires
add-requires g c =
    let notes = rw (← c.self.view_is) at c.requires.fits in
    record { fits = notes.hiding; room = c.requires.room }

pub returns-in_err-enter-clause-err : goal.returns-in_err-enter-clause-err
returns-in_err-enter-clause-err g c =
    let notes = rw (← c.self.view_is) at c.requires.fits in
    let P : IndexValue → Type 0 = λ z. IsIndex (g.L.EntryList.entries c.args.list.now) z in
    any_err c.from_residual.result _ (record { hiding = notes.hiding; entries = subst P (sym c.in_err-enter.ensures.err) notes.entries })

pub returns-in-Ok-clause-ok : goal.returns-in-Ok-clause-ok
returns-in-Ok-clause-ok g c =
    let notes = rw (← c.self.view_is) at c.requires.fits in
    record { hiding = c.in-Ok.ensures.ok; entries = c.in_ok-enter.ensures.ok (g.L.EntryList.entries c.args.list.now) notes.entries }

pub returns-in-Err-clause-err : goal.returns-in-Err-clause-err
returns-in-Err-clause-err g c =
    let list = g.L.EntryList.entries c.args.list.now in
    let notes = rw (← c.self.view_is) at c.requires.fits in
    let P : HidingValue → Type 0 = λ z. IsHidingOf list z in
    record { hiding = subst P (sym c.in-Err.ensures.err) notes.hiding; entries = c.leave.ensures list c.args.e.now (c.in_ok-enter.ensures.ok list notes.entries) }
