use Rattle.std.proofs.Common.{arith}
use Rattle.me_unify.proofs.FlatEnds.{order_shallow}
use Rattle.me_unify.proofs.Later.{order_behind}
use Rattle.me_unify.proofs.links.Links.is_ordered.Goals as goal

pub returns-then-are_shallow-clause-yes : goal.returns-then-are_shallow-clause-yes
returns-then-are_shallow-clause-yes c z =
    order_shallow c.args.nodes.now c.args.self.now c.args.mark c.requires.forest c.requires.nodes c.requires.fit c.requires.closed c.requires.before (c.are_shallow.ensures c.if-are_shallow.true)

pub returns-clause-yes : goal.returns-clause-yes
returns-clause-yes c z =
    let q = c.loop-k.invariant.walk in
    order_behind c.args.nodes.now c.args.self.now c.args.mark c.loop-k.walk.order.items c.loop-k.walk.count c.loop-k.walk.list.items c.loop-k.walk.stack.items c.requires.forest c.requires.nodes c.requires.fit c.requires.closed q.ordered c.requires.before q.opened c.loop-k.invariant.none
    (λ k ge lt. c.loop-k.invariant.seen k ge (omega (arith, lt)))
