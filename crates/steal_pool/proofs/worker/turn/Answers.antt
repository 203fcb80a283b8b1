use Rattle.std.proofs.Common.{List, refl, sym, subst}
use Rattle.branch_core.specs.Parts.{RecordValue}
use Rattle.steal_pool.specs.Ledger.{explorer_tree, IsTaking}
use Rattle.steal_pool.proofs.Booking.{take_books}
use Rattle.steal_pool.proofs.worker.turn.Goals as goal

pub served_at_gate-requires-clause-taking : goal.served_at_gate-requires-clause-taking
served_at_gate-requires-clause-taking g c κs within =
    let state = c.args.state in
    let q = explorer_tree (g.E.Explore.problem c.args.explorer.now) (g.E.Explore.bounds c.args.explorer.now) (g.E.Explore.share c.args.explorer.now) in
    let path = c.path-path.result in
    let P : List RecordValue → Type 0 = λ l. IsTaking q c.args.words.now state.lacks l path c.take.new.s in
    subst P (sym c.room_for-room.ensures.same) (take_books q c.args.words.now state.lacks state.records.items path state.seat c.take.new.s c.requires.kept c.in-Taken.ensures.seat (c.in-Taken.ensures.holds refl))
