use Rattle.std.proofs.Common.{◌≡◌, ◌<◌, length, get_or, ap, arith}
use Rattle.me_unify.proofs.Steps.{at_zero}
use Rattle.me_unify.proofs.Walking.{walk_enter}
use Rattle.me_unify.proofs.walk.Walk.visit.Goals as goal

pub open-init : goal.open-init
open-init c =
    let q = c.requires.walk in
    let in_order : c.args.x < length c.args.self.now.order.items = omega (arith, c.requires.within, q.ordered.sized) in
    let at : c.index.result.now ≡ get_or c.args.self.now.order.items c.args.x 0 = at_zero c.args.self.now.order.items c.args.x _ in_order c.index.ensures in
    let white : get_or c.args.self.now.order.items c.args.x 0 ≡ 0 = omega (arith, c.if-index-gt0.false) in
    record {
      walk = walk_enter c.args.nodes.now c.args.links.now c.enter.new.self c.args.self.now.order.items c.args.self.now.list.items c.args.self.now.reached.items c.args.self.now.stack.items c.args.self.now.count c.args.x
          q.ordered q.sized q.reached q.opened
          c.in_ok-enter.ensures.order c.in_ok-enter.ensures.stack c.in_ok-enter.ensures.list c.in_ok-enter.ensures.count c.in_ok-enter.ensures.reached
          c.requires.within white
          (λ i lt. absurd (omega (arith, ap length c.requires.none)));
      seen = λ y w s. s;
    }
