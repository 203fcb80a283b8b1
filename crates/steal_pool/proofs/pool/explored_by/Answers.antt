use Rattle.std.proofs.Common.{ℕ, List, map, length, false, sym, subst}
use Rattle.branch_core.specs.Parts.{RecordValue}
use Rattle.me_terms.specs.declared.sequence.Sequence.{Sequence}
use Rattle.branch_core.specs.declared.part.Record.{Record}
use Rattle.steal_pool.specs.declared.worker.Station.{Station}
use Rattle.steal_pool.specs.Ledger.{explorer_tree, IsKept}
use Rattle.steal_pool.proofs.Gathering.{lead_kept, lead_numbers, same_map}
use Rattle.steal_pool.proofs.pool.explored_by.Goals as goal

pub run_all-requires-clause-fresh : goal.run_all-requires-clause-fresh
run_all-requires-clause-fresh g c κs within k d less =
    c.in-Some.ensures.fresh k d less (explorer_tree (g.E.Explore.problem c.args.explorer.now) (g.E.Explore.bounds c.args.explorer.now) (g.E.Explore.share c.args.explorer.now))

pub gathered-requires-clause-kept : goal.gathered-requires-clause-kept
gathered-requires-clause-kept g c κs within =
    let q = explorer_tree (g.E.Explore.problem c.args.explorer.now) (g.E.Explore.bounds c.args.explorer.now) (g.E.Explore.share c.args.explorer.now) in
    let P : List RecordValue → Type 0 = λ l. IsKept q c.args.words.now false l c.stations_of.new.seat in
    subst P (sym c.new.ensures) (lead_kept q c.args.words.now (length c.in-Some.stations.items) c.args.start c.stations_of.new.seat c.requires.seat c.in-Some.ensures.seat)

pub gathered-requires-clause-numbers : goal.gathered-requires-clause-numbers
gathered-requires-clause-numbers g c κs within =
    let number : Station g.row.E-Work.Denot g.row.B.Denot × Sequence Record → ℕ = λ other. other.0.seat.number in
    let mine : Station g.row.E-Work.Denot g.row.B.Denot → ℕ = λ station. station.seat.number in
    let others = c.in_ok-others.others.items in
    let stations = c.in-Some.stations.items in
    lead_numbers c.args.words.now (length stations) c.args.start c.stations_of.new.seat (map number others) (map mine stations) c.requires.seat c.in-Some.ensures.seat c.in-Some.ensures.numbers (same_map number mine others stations c.in_ok-others.ensures.len c.in_ok-others.ensures.numbers)
