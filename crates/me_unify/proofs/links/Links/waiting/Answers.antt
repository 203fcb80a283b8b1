use Rattle.std.proofs.Common.{◌≡◌, ℕ, ◌<◌, ◌≤◌, length, get_or, arith, subst, sym, ◌∙◌}
use Rattle.me_unify.specs.Linked.{NONE}
use Rattle.me_unify.specs.Walked.{IsAbove}
use Rattle.me_unify.proofs.Steps.{at_zero, there, room_app}
use Rattle.me_unify.proofs.Visit.{leads_var}
use Rattle.me_unify.proofs.Walking.{app_at, reached_more, leads_all, above_app}
use Rattle.me_unify.proofs.links.Links.waiting.Goals as goal

pub first_waiting-next-requires-clause-within : goal.first_waiting-next-requires-clause-within
first_waiting-next-requires-clause-within c =
    rw (c.deref.ensures.value, c.requires.order) (room_app c.args.nodes.now c.args.x c.index-nodes-x.result c.in-App.f c.in-App.args c.requires.within c.index-nodes-x.is c.in-App.is c.requires.fit)

pub first_waiting-next-requires-clause-done : goal.first_waiting-next-requires-clause-done
first_waiting-next-requires-clause-done c =
    let at = app_at c.args.nodes.now c.args.x c.index-nodes-x.result c.in-App.f c.in-App.args c.requires.within c.index-nodes-x.is c.in-App.is in
    rw c.deref.ensures.value (c.requires.reached c.args.x c.in-App.f c.in-App.args at)

pub returns-in-Var-clause-done : goal.returns-in-Var-clause-done
returns-in-Var-clause-done c z n before =
    let w : c.args.x < length c.args.self.now.place.items = omega (arith, c.requires.within, c.requires.nodes) in
    let free : get_or c.args.self.now.place.items c.args.x 0 ≡ NONE = sym (at_zero c.args.self.now.place.items c.args.x _ w c.index-k.ensures) ∙ c.if-k.false in
    leads_var _ _ _ _ c.args.x c.in-Var.space c.in-Var.var free (λ v at. there c.args.nodes.now c.args.x c.index-nodes-x.result v _ c.index-nodes-x.is c.in-Var.is at)

pub returns-then-next-len-clause-reached : goal.returns-then-next-len-clause-reached
returns-then-next-len-clause-reached c =
    let at = app_at c.args.nodes.now c.args.x c.index-nodes-x.result c.in-App.f c.in-App.args c.requires.within c.index-nodes-x.is c.in-App.is in
    let done = rw c.deref.ensures.value at c.first_waiting-next.ensures.done in
    reached_more c.args.nodes.now c.args.order.now c.args.reached.now c.args.x c.first_waiting-next.result c.in-App.f c.in-App.args (omega (arith, c.requires.within, c.requires.sized)) at c.requires.reached done

pub returns-then-next-len-clause-within : goal.returns-then-next-len-clause-within
returns-then-next-len-clause-within c =
    let lt : c.first_waiting-next.result < length c.in-App.args.items = omega (arith, c.if-next-len.true, c.len.ensures) in
    let is : c.index.result.now ≡ get_or c.in-App.args.items c.first_waiting-next.result 0 = at_zero c.in-App.args.items c.first_waiting-next.result _ lt c.index.ensures in
    let room = room_app c.args.nodes.now c.args.x c.index-nodes-x.result c.in-App.f c.in-App.args c.requires.within c.index-nodes-x.is c.in-App.is c.requires.fit c.first_waiting-next.result lt in
    omega (arith, is, room)

pub returns-then-next-len-clause-above : goal.returns-then-next-len-clause-above
returns-then-next-len-clause-above c =
    let at = app_at c.args.nodes.now c.args.x c.index-nodes-x.result c.in-App.f c.in-App.args c.requires.within c.index-nodes-x.is c.in-App.is in
    let lt : c.first_waiting-next.result < length c.in-App.args.items = omega (arith, c.if-next-len.true, c.len.ensures) in
    let is : c.index.result.now ≡ get_or c.in-App.args.items c.first_waiting-next.result 0 = at_zero c.in-App.args.items c.first_waiting-next.result _ lt c.index.ensures in
    let P : ℕ → Type 0 = λ z. IsAbove c.args.nodes.now c.args.self.now c.args.x z in
    subst P (sym is) (above_app c.args.nodes.now c.args.self.now c.args.x c.in-App.f c.first_waiting-next.result c.in-App.args at lt)

pub returns-else-next-len-clause-reached : goal.returns-else-next-len-clause-reached
returns-else-next-len-clause-reached c =
    let at = app_at c.args.nodes.now c.args.x c.index-nodes-x.result c.in-App.f c.in-App.args c.requires.within c.index-nodes-x.is c.in-App.is in
    let done = rw c.deref.ensures.value at c.first_waiting-next.ensures.done in
    reached_more c.args.nodes.now c.args.order.now c.args.reached.now c.args.x c.first_waiting-next.result c.in-App.f c.in-App.args (omega (arith, c.requires.within, c.requires.sized)) at c.requires.reached done

pub returns-else-next-len-clause-done : goal.returns-else-next-len-clause-done
returns-else-next-len-clause-done c z n before =
    let w : c.args.x < length c.args.self.now.place.items = omega (arith, c.requires.within, c.requires.nodes) in
    let free : get_or c.args.self.now.place.items c.args.x 0 ≡ NONE = sym (at_zero c.args.self.now.place.items c.args.x _ w c.index-k.ensures) ∙ c.if-k.false in
    let room = room_app c.args.nodes.now c.args.x c.index-nodes-x.result c.in-App.f c.in-App.args c.requires.within c.index-nodes-x.is c.in-App.is c.requires.fit in
    let done = rw c.deref.ensures.value at c.first_waiting-next.ensures.done in
    let most : length c.in-App.args.items ≤ c.first_waiting-next.result = omega (arith, c.if-next-len.false, c.len.ensures) in
    leads_all _ _ _ n c.args.x c.in-App.f c.in-App.args c.requires.order free (λ v at. there c.args.nodes.now c.args.x c.index-nodes-x.result v _ c.index-nodes-x.is c.in-App.is at) room
    (λ i lt. done i (omega arith) lt) before
