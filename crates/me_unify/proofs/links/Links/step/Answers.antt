use Rattle.std.proofs.Common.{rules, arith}
use Rattle.me_unify.proofs.Steps.{step_parts, room_app, there, closed_apps, closed_var, closed_never}
use Rattle.me_unify.proofs.links.Links.step.Goals as goal
use Rattle.me_unify.proofs.links.Links.step.Goals.{then-f-g-via-then-f-g, then-f-g-via-else-f-g+then-len}

pub returns-then-f-g-clause-no : goal.returns-then-f-g-clause-no
returns-then-f-g-clause-no c z t h fits e =
    let p = step_parts c.args.nodes.now t h c.args.a c.args.b c.index-nodes-a.result c.index-nodes-b.result c.in-App-App.f c.in-App-App.g c.in-App-App.args c.in-App-App.others
    (omega arith) (omega arith) c.index-nodes-a.is c.index-nodes-b.is c.in-App-App.is-0 c.in-App-App.is-1 fits e in
    elim c.then-f-g.branch [ then-f-g-via-then-f-g w ↦ omega (arith, p.symbol) | then-f-g-via-else-f-g+then-len w ↦ omega (arith, p.lengths) ]

pub join_all-requires-clause-left : goal.join_all-requires-clause-left
join_all-requires-clause-left c =
    rw c.deref.ensures.value (rw c.requires.nodes at (room_app c.args.nodes.now c.args.a c.index-nodes-a.result c.in-App-App.f c.in-App-App.args (omega arith) c.index-nodes-a.is c.in-App-App.is-0 c.requires.fit))

pub join_all-requires-clause-right : goal.join_all-requires-clause-right
join_all-requires-clause-right c =
    rw c.deref-in-App-App.ensures.value (rw c.requires.nodes at (room_app c.args.nodes.now c.args.b c.index-nodes-b.result c.in-App-App.g c.in-App-App.others (omega arith) c.index-nodes-b.is c.in-App-App.is-1 c.requires.fit))

pub returns-in_err-join_all-in-App-App-clause-same : goal.returns-in_err-join_all-in-App-App-clause-same
returns-in_err-join_all-in-App-App-clause-same c t h fits old e =
    let p = step_parts c.args.nodes.now t h c.args.a c.args.b c.index-nodes-a.result c.index-nodes-b.result c.in-App-App.f c.in-App-App.g c.in-App-App.args c.in-App-App.others
    (omega arith) (omega arith) c.index-nodes-a.is c.index-nodes-b.is c.in-App-App.is-0 c.in-App-App.is-1 fits e in
    c.join_all.ensures.same h old (rw (c.deref.ensures.value, c.deref-in-App-App.ensures.value) p.each)

pub returns-in_ok-join_all-in-App-App-clause-same : goal.returns-in_ok-join_all-in-App-App-clause-same
returns-in_ok-join_all-in-App-App-clause-same c t h fits old e =
    let p = step_parts c.args.nodes.now t h c.args.a c.args.b c.index-nodes-a.result c.index-nodes-b.result c.in-App-App.f c.in-App-App.g c.in-App-App.args c.in-App-App.others
    (omega arith) (omega arith) c.index-nodes-a.is c.index-nodes-b.is c.in-App-App.is-0 c.in-App-App.is-1 fits e in
    c.join_all.ensures.same h old (rw (c.deref.ensures.value, c.deref-in-App-App.ensures.value) p.each)

pub returns-in_ok-join_all-in-App-App-clause-yes : goal.returns-in_ok-join_all-in-App-App-clause-yes
returns-in_ok-join_all-in-App-App-clause-yes c z p q a b u =
    closed_apps c.join_all.new.self p q c.in-App-App.f c.in-App-App.g c.in-App-App.args c.in-App-App.others
    (there c.args.nodes.now c.args.a c.index-nodes-a.result p _ c.index-nodes-a.is c.in-App-App.is-0 a)
    (there c.args.nodes.now c.args.b c.index-nodes-b.result q _ c.index-nodes-b.is c.in-App-App.is-1 b)
    (record {
      symbol = c.if-f-g.false;
      lengths = search (rules, c.if-len.false, c.len.ensures, c.len-else-f-g.ensures);
      each = rw (c.deref.ensures.value, c.deref-in-App-App.ensures.value) at c.in_ok-join_all-in-App-App.ensures.alike;
    })

pub returns-in_default-clause-yes : goal.returns-in_default-clause-yes
returns-in_default-clause-yes c z p q a b u =
    closed_never c.args.self.now p q _ _ _ _
    (there c.args.nodes.now c.args.a c.index-nodes-a.result p _ c.index-nodes-a.is c.in_default.is-0 a)
    (there c.args.nodes.now c.args.b c.index-nodes-b.result q _ c.index-nodes-b.is c.in_default.is-1 b) u

pub returns-in_default-2-clause-yes : goal.returns-in_default-2-clause-yes
returns-in_default-2-clause-yes c z p q a b u =
    closed_var c.args.self.now p q _ _ (there c.args.nodes.now c.args.a c.index-nodes-a.result p _ c.index-nodes-a.is c.in_default.is-0 a)
