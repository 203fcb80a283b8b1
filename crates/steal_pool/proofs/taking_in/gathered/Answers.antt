use Rattle.std.proofs.Common.{rules, ◌≡◌, ℕ, List, [], ◌∷◌, ◌++◌, map, append-nil, sym, subst, ap, ◌∙◌}
use Rattle.std.proofs.lemmas.List.{map-append}
use Rattle.std.specs.List.{All}
use Rattle.me_terms.specs.declared.sequence.Sequence.{Sequence}
use Rattle.branch_core.specs.declared.part.Record.{Record}
use Rattle.share_words.specs.Seats.{WorkerSeatValue}
use Rattle.steal_pool.specs.declared.worker.Station.{Station}
use Rattle.steal_pool.specs.Crew.{HasNumbers}
use Rattle.steal_pool.specs.Ledger.{explorer_tree, IsKept}
use Rattle.steal_pool.proofs.Fits.{fits_front, fits_last}
use Rattle.steal_pool.proofs.Gathering.{has_moved}
use Rattle.steal_pool.proofs.taking_in.gathered.Goals as goal

pub take_in_kept-requires-clause-other : goal.take_in_kept-requires-clause-other
take_in_kept-requires-clause-other g c κs within =
    let q = explorer_tree (g.E.Explore.problem c.args.explorer.now) (g.E.Explore.bounds c.args.explorer.now) (g.E.Explore.share c.args.explorer.now) in
    let P : Station g.row.E-Work.Denot g.row.B.Denot × Sequence Record → Type 0 = λ other. IsKept q c.args.words.now other.0.lacks other.1.items other.0.seat in
    fits_last P c.pop.new.self.items c.in-Some.other (subst (All P) c.in-Some.ensures.items c.loop-other.invariant.1)

pub loop-other-preserved : goal.loop-other-preserved
loop-other-preserved g c =
    let q = explorer_tree (g.E.Explore.problem c.args.explorer.now) (g.E.Explore.bounds c.args.explorer.now) (g.E.Explore.share c.args.explorer.now) in
    let P : Station g.row.E-Work.Denot g.row.B.Denot × Sequence Record → Type 0 = λ other. IsKept q c.args.words.now other.0.lacks other.1.items other.0.seat in
    let number : Station g.row.E-Work.Denot g.row.B.Denot × Sequence Record → ℕ = λ other. other.0.seat.number in
    let i = c.loop-other.invariant in
    let was = c.loop-other.lead.seat in
    let rest = c.pop.new.self.items in
    let other = c.in-Some.other in
    let now = c.in_ok-lead.ensures.seat in
    let R : WorkerSeatValue → Type 0 = λ s. HasNumbers s.forks (s.gathered ++ map number rest) in
    let moved = has_moved was.forks was.gathered (map number c.loop-other.others.items) (map number rest) other.0.seat.number (ap (map number) c.in-Some.ensures.items ∙ map-append number rest (other ∷ [])) i.3 in (
      c.in_ok-lead.ensures.kept,
      fits_front P rest (other ∷ []) (subst (All P) c.in-Some.ensures.items i.1),
      ap (λ (s : WorkerSeatValue). s.number) now ∙ i.2,
      subst R (sym now) moved,
    )

pub returns-clause-gathered : goal.returns-clause-gathered
returns-clause-gathered g c =
    let number : Station g.row.E-Work.Denot g.row.B.Denot × Sequence Record → ℕ = λ other. other.0.seat.number in
    let i = c.loop-other.invariant in
    let was = c.loop-other.lead.seat in
    let none : c.loop-other.others.items ≡ [] = search rules in
    let R : List ℕ → Type 0 = λ l. HasNumbers was.forks l in
    record { first = i.2; all = subst R (ap (λ l. was.gathered ++ map number l) none ∙ append-nil was.gathered) i.3 }
