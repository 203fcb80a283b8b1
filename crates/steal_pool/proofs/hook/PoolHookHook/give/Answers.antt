use Rattle.std.proofs.Common.{ap, ◌∙◌}
use Rattle.steal_pool.specs.Ledger.{history_of}
use Rattle.steal_pool.proofs.hook.PoolHookHook.give.Goals as goal

pub returns-in-NotNew-clause-history : goal.returns-in-NotNew-clause-history
returns-in-NotNew-clause-history g c = ap history_of c.in-NotNew.ensures.seat

pub returns-in-Offered-clause-history : goal.returns-in-Offered-clause-history
returns-in-Offered-clause-history g c = ap history_of c.raise.ensures ∙ ap history_of c.in-Offered.ensures.seat
