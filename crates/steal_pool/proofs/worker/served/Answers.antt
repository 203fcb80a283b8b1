use Rattle.steal_pool.specs.Ledger.{explorer_tree}
use Rattle.steal_pool.proofs.worker.served.Goals as goal

pub returns-in-None-clause-kept : goal.returns-in-None-clause-kept
returns-in-None-clause-kept g c = c.skipped.ensures.kept (explorer_tree (g.E.Explore.problem c.args.explorer.now) (g.E.Explore.bounds c.args.explorer.now) (g.E.Explore.share c.args.explorer.now))
