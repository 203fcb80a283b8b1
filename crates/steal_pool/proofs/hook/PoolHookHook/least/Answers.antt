use Rattle.std.proofs.Common.{Some, None, arith}
use Rattle.steal_pool.proofs.Told.{history_key, history_none}
use Rattle.steal_pool.proofs.hook.PoolHookHook.least.Goals as goal

pub returns-then-found-lt-NO_KEY-clause-history : goal.returns-then-found-lt-NO_KEY-clause-history
returns-then-found-lt-NO_KEY-clause-history g c =
    let less = c.if-found-lt-NO_KEY.true in history_key c.args.self.now.seat c.look-found.new.s c.look-found.result c.look-found.ensures.seat (omega arith)

pub returns-else-found-lt-NO_KEY-clause-history : goal.returns-else-found-lt-NO_KEY-clause-history
returns-else-found-lt-NO_KEY-clause-history g c =
    let more = c.if-found-lt-NO_KEY.false in history_none c.args.self.now.seat c.look-found.new.s c.look-found.result c.look-found.ensures.seat (omega arith)
