use Rattle.steal_pool.specs.Crew.{IsKeptState}
use Rattle.steal_pool.specs.Ledger.{explorer_tree, IsSameSeat}
use Rattle.steal_pool.proofs.crew.work.Given as goal

abbrev pub invariant-loop : goal.invariant-loop
invariant-loop g l =
    IsKeptState (explorer_tree (g.E.Explore.problem l.explorer) (g.E.Explore.bounds l.explorer) (g.E.Explore.share l.explorer)) l.words l.state
    × IsSameSeat l.fn.start.seat l.state.seat
