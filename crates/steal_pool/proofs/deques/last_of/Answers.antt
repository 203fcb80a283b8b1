use Rattle.std.proofs.Common.{[], ◌∷◌}
use Rattle.steal_pool.specs.Tasks.{IsTask}
use Rattle.steal_pool.proofs.Fits.{fits_front, fits_back, fits_found}
use Rattle.steal_pool.proofs.deques.last_of.Goals as goal

pub pop_as-requires-clause-fifo : goal.pop_as-requires-clause-fifo
pop_as-requires-clause-fifo g c flavor xs items views some few kept at =
    let P : g.row.W.Denot → Type 0 = IsTask g.B.TaskRule.is_task in (tt, fits_back P xs items kept, fits_front P xs items kept)

pub pop_as-requires-clause-lifo : goal.pop_as-requires-clause-lifo
pop_as-requires-clause-lifo g c flavor x items views kept at =
    let P : g.row.W.Denot → Type 0 = IsTask g.B.TaskRule.is_task in (tt, fits_front P items (x ∷ []) kept, fits_back P items (x ∷ []) kept)

pub returns : goal.returns
returns g c = let P : g.row.W.Denot → Type 0 = IsTask g.B.TaskRule.is_task in fits_found P c.pop_as.result _ c.pop_as.ensures.rule
