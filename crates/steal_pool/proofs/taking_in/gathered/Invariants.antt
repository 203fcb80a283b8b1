use Rattle.std.proofs.Common.{◌≡◌, ◌++◌, map, length}
use Rattle.std.specs.List.{All}
use Rattle.steal_pool.specs.Crew.{IsKeptState, HasNumbers}
use Rattle.steal_pool.specs.Ledger.{explorer_tree, IsKept}
use Rattle.steal_pool.proofs.taking_in.gathered.Given as goal

abbrev pub invariant-loop-other : goal.invariant-loop-other
invariant-loop-other g l =
    IsKeptState (explorer_tree (g.E.Explore.problem l.explorer) (g.E.Explore.bounds l.explorer) (g.E.Explore.share l.explorer)) l.words l.lead
    × All (λ other. IsKept (explorer_tree (g.E.Explore.problem l.explorer) (g.E.Explore.bounds l.explorer) (g.E.Explore.share l.explorer)) l.words other.0.lacks other.1.items other.0.seat) l.others.items
    × (l.lead.seat.number ≡ 0)
    × HasNumbers l.lead.seat.forks (l.lead.seat.gathered ++ map (λ other. other.0.seat.number) l.others.items)

abbrev pub decreases-loop-other : goal.decreases-loop-other
decreases-loop-other g l = length l.others.items
