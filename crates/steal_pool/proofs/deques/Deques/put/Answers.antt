use Rattle.std.proofs.Common.{inr}
use Rattle.steal_pool.specs.Tasks.{IsTask}
use Rattle.steal_pool.proofs.Fits.{fits_pushed}
use Rattle.steal_pool.proofs.deques.Deques.put.Goals as goal

pub push_as-requires-clause-pushes : goal.push_as-requires-clause-pushes
push_as-requires-clause-pushes g c items views kept at =
    let P : g.row.W.Denot → Type 0 = IsTask g.B.TaskRule.is_task in fits_pushed P items c.args.work c.requires.task kept

pub returns-in-Err : goal.returns-in-Err
returns-in-Err g c = record { lies = inr (c.filled.result, c.push_reserved.ensures.items, c.filled.ensures) }
