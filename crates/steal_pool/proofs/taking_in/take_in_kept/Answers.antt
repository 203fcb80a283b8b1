use Rattle.std.proofs.Common.{List, Bool, ◌++◌, sym, subst}
use Rattle.branch_core.specs.Parts.{RecordValue}
use Rattle.share_words.specs.Seats.{WorkerSeatValue, with_gathered}
use Rattle.steal_pool.specs.Ledger.{explorer_tree, IsKept}
use Rattle.steal_pool.proofs.Gathering.{join_books}
use Rattle.steal_pool.proofs.taking_in.take_in_kept.Goals as goal

pub returns-in-Some-clause-kept : goal.returns-in-Some-clause-kept
returns-in-Some-clause-kept g c =
    let q = explorer_tree (g.E.Explore.problem c.args.explorer.now) (g.E.Explore.bounds c.args.explorer.now) (g.E.Explore.share c.args.explorer.now) in
    let w = c.args.words.now in
    let a = c.args.lead in
    let b = c.args.other in
    let s = c.in-Some.state in
    let both = join_books q w a.lacks b.0.lacks a.records.items b.1.items a.seat b.0.seat c.requires.kept c.requires.other in
    let P : Bool → Type 0 = λ l. IsKept q w l (a.records.items ++ b.1.items) (with_gathered a.seat b.0.seat) in
    let Q : List RecordValue → Type 0 = λ l. IsKept q w s.lacks l (with_gathered a.seat b.0.seat) in
    let R : WorkerSeatValue → Type 0 = λ l. IsKept q w s.lacks s.records.items l in
    subst R (sym c.in-Some.ensures.seat) (subst Q (sym c.in-Some.ensures.records) (subst P (sym c.in-Some.ensures.lacks) both))
