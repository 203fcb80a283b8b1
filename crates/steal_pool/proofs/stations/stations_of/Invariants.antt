use Rattle.std.proofs.Common.{◌≡◌, ◌+◌, ◌<◌, [], map, length}
use Rattle.std.specs.List.{All}
use Rattle.steal_pool.specs.Crew.{up_to}
use Rattle.steal_pool.specs.Ledger.{ExplorerTree, IsKept}
use Rattle.steal_pool.proofs.stations.stations_of.Given as goal

abbrev pub invariant-loop-deques : goal.invariant-loop-deques
invariant-loop-deques g l =
    (l.seat ≡ record l.initial.seat { forks = length l.stations.items })
    × All (λ station. (q : ExplorerTree) → IsKept q l.words station.lacks [] station.seat) l.stations.items
    × (map (λ station. station.seat.number) l.stations.items ≡ up_to (length l.stations.items))
    × (length l.stations.items + length l.all_deques.items < 100)

abbrev pub decreases-loop-deques : goal.decreases-loop-deques
decreases-loop-deques g l = length l.all_deques.items
