use Rattle.std.proofs.Common.{List, sym, subst}
use Rattle.branch_core.specs.Parts.{RecordValue}
use Rattle.steal_pool.specs.Ledger.{explorer_tree, IsKept}
use Rattle.steal_pool.proofs.Booking.{walk_books}
use Rattle.steal_pool.proofs.worker.walked.Goals as goal

pub returns-clause-kept : goal.returns-clause-kept
returns-clause-kept g c =
    let state = c.args.state in
    let q = explorer_tree (g.E.Explore.problem c.args.explorer.now) (g.E.Explore.bounds c.args.explorer.now) (g.E.Explore.share c.args.explorer.now) in
    let w = c.walk_one-record.result in
    let P : List RecordValue → Type 0 = λ l. IsKept q c.args.words.now state.lacks l c.end.new.s in
    subst P (sym c.put_record.ensures) (walk_books q c.args.words.now state.lacks state.records.items c.args.path w.record state.seat w.seat c.end.new.s c.requires.taking c.walk_one-record.ensures c.end.ensures.seat)
