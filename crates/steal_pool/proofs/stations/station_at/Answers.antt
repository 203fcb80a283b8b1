use Rattle.std.proofs.Common.{false, [], sym, subst}
use Rattle.share_words.specs.Seats.{WorkerSeatValue}
use Rattle.steal_pool.specs.Ledger.{IsKept}
use Rattle.steal_pool.proofs.Gathering.{new_kept}
use Rattle.steal_pool.proofs.stations.station_at.Goals as goal

pub returns-clause-fresh : goal.returns-clause-fresh
returns-clause-fresh g c q =
    let P : WorkerSeatValue → Type 0 = λ s. IsKept q c.args.words.now false [] s in subst P (sym c.fork_seat-theirs.ensures.new) (new_kept q c.args.words.now _)
