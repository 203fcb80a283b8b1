use Rattle.std.proofs.Common.{arith}
use Rattle.me_unify.proofs.Visit.{sequence_of}
use Rattle.me_unify.proofs.Walking.{all_done}
use Rattle.me_unify.proofs.links.Links.ordered.Goals as goal

pub returns-clause-some : goal.returns-clause-some
returns-clause-some c =
    let q = c.loop-x.invariant.walk in
    rw c.truncate.ensures.items
    (sequence_of c.args.nodes.now c.args.self.now c.loop-x.walk.order.items c.loop-x.walk.count c.loop-x.walk.list.items c.requires.forest c.requires.nodes c.requires.fit c.requires.closed q.ordered
    (λ x w. all_done c.args.nodes.now c.args.self.now c.loop-x.walk.order.items c.loop-x.walk.stack.items x q.opened c.loop-x.invariant.none w (c.loop-x.invariant.seen x (omega arith))))
