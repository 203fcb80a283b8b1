use Rattle.std.proofs.Common.{rules}
use Rattle.me_terms.specs.declared.sequence.Sequence.{Sequence}
use Rattle.branch_core.specs.declared.part.Record.{Record}
use Rattle.steal_pool.specs.declared.worker.Station.{Station}
use Rattle.steal_pool.specs.Ledger.{explorer_tree, IsKept}
use Rattle.steal_pool.proofs.Calls.{all_give, each_gives, ok_map, ok_both}
use Rattle.steal_pool.proofs.crew.run_all.Goals as goal

pub returns-clause-kept : goal.returns-clause-kept
returns-clause-kept g c =
    let q = explorer_tree (g.E.Explore.problem c.args.explorer.now) (g.E.Explore.bounds c.args.explorer.now) (g.E.Explore.share c.args.explorer.now) in
    let P : Station g.row.E-Work.Denot g.row.B.Denot × Sequence Record → Type 0 = λ other. IsKept q c.args.words.now other.0.lacks other.1.items other.0.seat in
    ok_both c.run_pairs.result _ _ _ (λ v len each. let kept = all_give _ _ c.args.stations.items v.items each in kept P len (λ station other met. search (rules, met))) c.run_pairs.ensures.len c.run_pairs.ensures.each

pub returns-clause-numbers : goal.returns-clause-numbers
returns-clause-numbers g c = ok_map c.run_pairs.result _ _ (λ v each. let numbers = each_gives _ _ c.args.stations.items v.items each in numbers (λ other. other.0.seat.number) (λ station. station.seat.number) (λ station other met. search (rules, met))) c.run_pairs.ensures.each
