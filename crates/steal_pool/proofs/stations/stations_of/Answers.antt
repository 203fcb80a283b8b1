use Rattle.std.proofs.Common.{◌≡◌, ℕ, suc, ◌+◌, List, [], ◌∷◌, ◌++◌, map, length, sym, subst, ap, ◌∙◌, arith, length-append}
use Rattle.std.proofs.lemmas.List.{map-append}
use Rattle.std.proofs.lemmas.List.Elements.{All-append}
use Rattle.std.specs.List.{All}
use Rattle.share_words.specs.Seats.{WorkerSeatValue}
use Rattle.steal_pool.specs.declared.worker.Station.{Station}
use Rattle.steal_pool.specs.Crew.{up_to}
use Rattle.steal_pool.specs.Ledger.{ExplorerTree, IsKept}
use Rattle.steal_pool.proofs.Fits.{fits_one}
use Rattle.steal_pool.proofs.stations.stations_of.Goals as goal

pub loop-deques-preserved : goal.loop-deques-preserved
loop-deques-preserved g c =
    let P : Station g.row.W.Denot g.row.B.Denot → Type 0 = λ station. (q : ExplorerTree) → IsKept q c.args.words.now station.lacks [] station.seat in
    let number : Station g.row.W.Denot g.row.B.Denot → ℕ = λ station. station.seat.number in
    let i = c.loop-deques.invariant in
    let was = c.loop-deques.stations.items in
    let now = c.in_ok-stations.stations.items in
    let one = c.station_at-station.result in
    let is : now ≡ was ++ one ∷ [] = c.in_ok-stations.ensures in
    let forks : c.loop-deques.seat.forks ≡ length was = ap (λ (s : WorkerSeatValue). s.forks) i.0 in
    let longer : length now ≡ length was + 1 = ap length is ∙ length-append was (one ∷ []) in
    let fewer : length c.loop-deques.all_deques.items ≡ length c.pop.new.self.items + 1 = ap length c.in-Some.ensures.items ∙ length-append c.pop.new.self.items (c.in-Some.deques ∷ []) in
    let few = i.3 in
    let nth : number one ≡ suc (length was) = c.station_at-station.ensures.number ∙ omega (arith, forks) in
    let long : length now ≡ suc (length was) = omega (arith, longer) in (
      c.station_at-station.ensures.mine ∙ ap (λ (s : WorkerSeatValue). record s { forks = s.forks + 1 }) i.0 ∙ ap (λ (n : ℕ). record c.args.seat.now { forks = n }) (sym longer),
      subst (All P) (sym is) (All-append P was (one ∷ []) i.1 (fits_one P one c.station_at-station.ensures.fresh)),
      ap (map number) is ∙ map-append number was (one ∷ []) ∙ ap (λ (l : List ℕ). l ++ number one ∷ []) i.2 ∙ ap (λ (n : ℕ). up_to (length was) ++ n ∷ []) nth ∙ ap up_to (sym long),
      omega (arith, few, fewer, longer),
    )
