use Rattle.steal_pool.specs.Tasks.{IsTask}
use Rattle.steal_pool.proofs.Fits.{fits_front, fits_back}
use Rattle.steal_pool.proofs.deques.steal_from.Goals as goal

pub steal_as-requires-clause-takes : goal.steal_as-requires-clause-takes
steal_as-requires-clause-takes g c xs items views some few kept at =
    let P : g.row.W.Denot → Type 0 = IsTask g.B.TaskRule.is_task in (tt, fits_back P xs items kept, fits_front P xs items kept)
