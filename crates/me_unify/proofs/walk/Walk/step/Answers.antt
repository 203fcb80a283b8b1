use Rattle.std.proofs.Common.{◌≡◌, [], ◌∷◌, ◌++◌, take, ◌+◌, ◌-◌, ◌<◌, length, get_or, ap, refl, arith, sym, ◌∙◌}
use Rattle.me_unify.proofs.Steps.{at_zero}
use Rattle.std.proofs.lemmas.List.{with_items_is, length-take-le, length_push}
use Rattle.me_unify.proofs.Visit.{room_left, white_less, fewer_white}
use Rattle.me_unify.proofs.Walking.{seen_set, above_all, no_circle, walk_enter, walk_leave}
use Rattle.me_unify.proofs.walk.Walk.step.Goals as goal

pub index_mut-requires-in_default : goal.index_mut-requires-in_default
index_mut-requires-in_default c =
    let q = c.requires.walk in
    let len : c.len-last.result - 1 + 1 ≡ length c.args.self.now.stack.items = omega (arith, c.len-last.ensures, c.requires.some) in
    let lt : c.len-last.result - 1 < length c.args.self.now.stack.items = omega arith in
    let is : c.index-x.result.now ≡ get_or c.args.self.now.stack.items (c.len-last.result - 1) 0 = at_zero c.args.self.now.stack.items (c.len-last.result - 1) _ lt c.index-x.ensures in
    let grey : get_or c.args.self.now.order.items c.index-x.result.now 0 ≡ 1 = ap (λ z. get_or c.args.self.now.order.items z 0) is ∙ q.opened.marked (c.len-last.result - 1) lt in
    let in_order : c.index-x.result.now < length c.args.self.now.order.items = omega (arith, is, q.opened.within (c.len-last.result - 1) lt, q.ordered.sized) in
    let left = room_left c.args.nodes.now c.args.links.now c.args.self.now.order.items c.args.self.now.count c.index-x.result.now c.args.self.now.list.items q.ordered in_order grey in
    omega (arith, left, q.ordered.above)

pub returns-in_default-clause-walk : goal.returns-in_default-clause-walk
returns-in_default-clause-walk c z =
    let q = c.requires.walk in
    let len : c.len-last.result - 1 + 1 ≡ length c.args.self.now.stack.items = omega (arith, c.len-last.ensures, c.requires.some) in
    let lt : c.len-last.result - 1 < length c.args.self.now.stack.items = omega arith in
    let is : c.index-x.result.now ≡ get_or c.args.self.now.stack.items (c.len-last.result - 1) 0 = at_zero c.args.self.now.stack.items (c.len-last.result - 1) _ lt c.index-x.ensures in
    let leads = rw c.deref.ensures.value at (c.waiting.ensures.done c.in_default.is) in
    let reached = rw c.deref.ensures.value at c.waiting.ensures.reached in
    let sized : length c.waiting.new.reached ≡ length c.args.self.now.reached.items = c.waiting.auto.reached ∙ ap length c.deref_mut.ensures.value in
    walk_leave _ _ _ c.args.self.now.order.items c.args.self.now.list.items c.waiting.new.reached c.args.self.now.stack.items c.args.self.now.count (c.len-last.result - 1) c.index-x.result.now
    q.ordered (sized ∙ q.sized) reached q.opened len is (leads c.args.self.now.count q.ordered.below)
    refl refl refl (with_items_is c.args.self.now.reached c.waiting.new.reached (omega arith)) c.truncate.ensures.items

pub returns-then-index-eq1-clause-no : goal.returns-then-index-eq1-clause-no
returns-then-index-eq1-clause-no c z =
    let q = c.requires.walk in
    let len : c.len-last.result - 1 + 1 ≡ length c.args.self.now.stack.items = omega (arith, c.len-last.ensures, c.requires.some) in
    let lt : c.len-last.result - 1 < length c.args.self.now.stack.items = omega arith in
    let is : c.index-x.result.now ≡ get_or c.args.self.now.stack.items (c.len-last.result - 1) 0 = at_zero c.args.self.now.stack.items (c.len-last.result - 1) _ lt c.index-x.ensures in
    let in_order : c.in-Some.y < length c.args.self.now.order.items = omega (arith, c.in-Some.ensures.within, q.ordered.sized) in
    let grey : get_or c.args.self.now.order.items c.in-Some.y 0 ≡ 1 = sym (at_zero c.args.self.now.order.items c.in-Some.y _ in_order c.index.ensures) ∙ c.if-index-eq1.true in
    no_circle c.args.nodes.now c.args.links.now c.args.self.now.order.items c.args.self.now.stack.items (c.len-last.result - 1) c.index-x.result.now c.in-Some.y q.opened len is c.in-Some.ensures.above c.in-Some.ensures.within grey

pub returns-clause-walk : goal.returns-clause-walk
returns-clause-walk c z =
    let q = c.requires.walk in
    let len : c.len-last.result - 1 + 1 ≡ length c.args.self.now.stack.items = omega (arith, c.len-last.ensures, c.requires.some) in
    let lt : c.len-last.result - 1 < length c.args.self.now.stack.items = omega arith in
    let is : c.index-x.result.now ≡ get_or c.args.self.now.stack.items (c.len-last.result - 1) 0 = at_zero c.args.self.now.stack.items (c.len-last.result - 1) _ lt c.index-x.ensures in
    let in_order : c.in-Some.y < length c.args.self.now.order.items = omega (arith, c.in-Some.ensures.within, q.ordered.sized) in
    let at : c.index.result.now ≡ get_or c.args.self.now.order.items c.in-Some.y 0 = at_zero c.args.self.now.order.items c.in-Some.y _ in_order c.index.ensures in
    let small : get_or c.args.self.now.order.items c.in-Some.y 0 < 2 = rw c.deref.ensures.value at c.in-Some.ensures.waiting in
    let white : get_or c.args.self.now.order.items c.in-Some.y 0 ≡ 0 = omega (arith, c.if-index-eq1.false) in
    let reached = rw c.deref.ensures.value at c.waiting.ensures.reached in
    let sized : length c.waiting.new.reached ≡ length c.args.self.now.reached.items = c.waiting.auto.reached ∙ ap length c.deref_mut.ensures.value in
    walk_enter c.args.nodes.now c.args.links.now c.enter.new.self c.args.self.now.order.items c.args.self.now.list.items c.waiting.new.reached c.args.self.now.stack.items c.args.self.now.count c.in-Some.y
    q.ordered (sized ∙ q.sized) reached q.opened
    c.in_ok-enter.ensures.order c.in_ok-enter.ensures.stack c.in_ok-enter.ensures.list c.in_ok-enter.ensures.count (c.in_ok-enter.ensures.reached ∙ with_items_is c.args.self.now.reached c.waiting.new.reached (omega arith))
    c.in-Some.ensures.within white
    (above_all c.args.nodes.now c.args.links.now c.args.self.now.order.items c.args.self.now.stack.items (c.len-last.result - 1) c.index-x.result.now c.in-Some.y q.opened len is c.in-Some.ensures.above)

pub returns-in_default-clause-seen : goal.returns-in_default-clause-seen
returns-in_default-clause-seen c z y w seen =
    let q = c.requires.walk in
    let lt : c.len-last.result - 1 < length c.args.self.now.stack.items = omega (arith, c.len-last.ensures, c.requires.some) in
    let is : c.index-x.result.now ≡ get_or c.args.self.now.stack.items (c.len-last.result - 1) 0 = at_zero c.args.self.now.stack.items (c.len-last.result - 1) _ lt c.index-x.ensures in
    let in_order : c.index-x.result.now < length c.args.self.now.order.items = omega (arith, is, q.opened.within (c.len-last.result - 1) lt, q.ordered.sized) in
    seen_set c.args.self.now.order.items c.index-x.result.now c.args.self.now.count y in_order (omega (arith, q.ordered.above)) seen

pub returns-in_default-clause-fewer : goal.returns-in_default-clause-fewer
returns-in_default-clause-fewer c z =
    let q = c.requires.walk in
    let len : c.len-last.result - 1 + 1 ≡ length c.args.self.now.stack.items = omega (arith, c.len-last.ensures, c.requires.some) in
    let lt : c.len-last.result - 1 < length c.args.self.now.stack.items = omega arith in
    let is : c.index-x.result.now ≡ get_or c.args.self.now.stack.items (c.len-last.result - 1) 0 = at_zero c.args.self.now.stack.items (c.len-last.result - 1) _ lt c.index-x.ensures in
    let grey : get_or c.args.self.now.order.items c.index-x.result.now 0 ≡ 1 = ap (λ z. get_or c.args.self.now.order.items z 0) is ∙ q.opened.marked (c.len-last.result - 1) lt in
    let in_order : c.index-x.result.now < length c.args.self.now.order.items = omega (arith, is, q.opened.within (c.len-last.result - 1) lt, q.ordered.sized) in
    let same = fewer_white c.args.self.now.order.items c.index-x.result.now c.args.self.now.count in_order grey q.ordered.above in
    let size : length (take (c.len-last.result - 1) c.args.self.now.stack.items) ≡ c.len-last.result - 1 = length-take-le (c.len-last.result - 1) c.args.self.now.stack.items (omega arith) in
    rw c.truncate.ensures.items (omega (arith, same, size))

pub returns-clause-seen : goal.returns-clause-seen
returns-clause-seen c z y w seen =
    let in_order : c.in-Some.y < length c.args.self.now.order.items = omega (arith, c.in-Some.ensures.within, c.requires.walk.ordered.sized) in
    rw c.in_ok-enter.ensures.order (seen_set c.args.self.now.order.items c.in-Some.y 1 y in_order (omega arith) seen)

pub returns-clause-fewer : goal.returns-clause-fewer
returns-clause-fewer c z =
    let q = c.requires.walk in
    let in_order : c.in-Some.y < length c.args.self.now.order.items = omega (arith, c.in-Some.ensures.within, q.ordered.sized) in
    let at : c.index.result.now ≡ get_or c.args.self.now.order.items c.in-Some.y 0 = at_zero c.args.self.now.order.items c.in-Some.y _ in_order c.index.ensures in
    let small : get_or c.args.self.now.order.items c.in-Some.y 0 < 2 = rw c.deref.ensures.value at c.in-Some.ensures.waiting in
    let white : get_or c.args.self.now.order.items c.in-Some.y 0 ≡ 0 = omega (arith, c.if-index-eq1.false) in
    let less = white_less c.args.self.now.order.items c.in-Some.y in_order white in
    let size : length (c.args.self.now.stack.items ++ c.in-Some.y ∷ []) ≡ length c.args.self.now.stack.items + 1 = length_push c.args.self.now.stack.items c.in-Some.y in
    rw (c.in_ok-enter.ensures.order, c.in_ok-enter.ensures.stack) (omega (arith, less, size))
