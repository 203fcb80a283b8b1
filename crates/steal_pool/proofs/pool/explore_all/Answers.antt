use Rattle.steal_pool.proofs.Calls.{ok_map}
use Rattle.steal_pool.proofs.Gathering.{whole_records}
use Rattle.steal_pool.proofs.pool.explore_all.Goals as goal

pub returns-clause-whole : goal.returns-clause-whole
returns-clause-whole g c =
    ok_map c.explore_as.result _ _ (λ x e. whole_records (g.E.Explore.problem c.args.explorer.now) (g.E.Explore.bounds c.args.explorer.now) _ _ e) c.explore_as.ensures.explored
