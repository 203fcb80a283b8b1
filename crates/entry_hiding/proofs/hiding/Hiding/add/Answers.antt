use Rattle.std.proofs.Common.{◌≡◌, [], ◌∷◌, ◌++◌, length, drop, Some, None, ap, arith}
use Rattle.std.proofs.lemmas.List.{take_at}
use Rattle.std.proofs.lemmas.Option.{slice_get_within}
use Rattle.entry_hiding.specs.Hiding.{with_marks}
use Rattle.entry_hiding.proofs.Marks.{all_below}
use Rattle.entry_hiding.proofs.Added.{added}
use Rattle.entry_hiding.proofs.hiding.Hiding.add.Goals as goal

pub mark-requires : goal.mark-requires
mark-requires g c =
    let only = rw c.deref.ensures.value at c.in_ok-places.ensures.only in
    rw (c.deref_mut.ensures.value, c.make_room.ensures.hidden_by, c.as_slice.ensures)
    (all_below _ _ (λ k m. slice_get_within _ k None (only k m).2))

pub returns-clause-ok : goal.returns-clause-ok
returns-clause-ok g c =
    let before = c.self.inside in
    let fits = rw (← c.self.view_is) at c.requires.fits in
    let only = rw c.deref.ensures.value at c.in_ok-places.ensures.only in
    let all = rw c.deref.ensures.value at c.in_ok-places.ensures.all in
    let position : c.len-position.result ≡ length (g.L.EntryList.entries c.args.entries.now) = omega (arith, ap length c.make_room.ensures.hidden_by, fits.each_by) in
    let marks : c.mark.new.hidden_by ≡ with_marks before.hidden_by.items c.in_ok-places.places.items (Some (length (g.L.EntryList.entries c.args.entries.now))) = cc (c.mark.ensures, c.deref_mut.ensures.value, c.make_room.ensures.hidden_by, c.as_slice.ensures, position) in
    let whole = take_at c.mark.new.hidden_by (drop (length c.mark.new.hidden_by) c.make_room.new.hidden_by.items) c.make_room.new.hidden_by.len (omega arith) in
    let by : c.push_reserved.new.self.items ≡ c.mark.new.hidden_by ++ None ∷ [] = cc (c.push_reserved.ensures.items, whole) in
    let hides : c.push_reserved-2.new.self.items ≡ before.hides.items ++ c.in_ok-places.places ∷ [] = cc (c.push_reserved-2.ensures.items, c.make_room.ensures.hides) in
    added _ _ _ _ _ _ _ _ fits only all marks by hides
