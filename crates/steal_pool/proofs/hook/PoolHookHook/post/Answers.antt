use Rattle.std.proofs.Common.{ap}
use Rattle.steal_pool.specs.Ledger.{history_of}
use Rattle.steal_pool.proofs.hook.PoolHookHook.post.Goals as goal

pub returns-clause-history : goal.returns-clause-history
returns-clause-history g c = ap history_of c.post.ensures.seat
