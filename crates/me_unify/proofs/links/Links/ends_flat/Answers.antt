use Rattle.std.proofs.Common.{◌≡◌, ◌<◌, length, get_or, slice_get, Some, ap, sym, ◌∙◌, arith}
use Rattle.std.proofs.lemmas.Option.{slice_get-get_or}
use Rattle.me_unify.specs.FlatEnds.{is_flat}
use Rattle.me_unify.proofs.FlatEnds.{flat_of, all_leaves}
use Rattle.me_unify.proofs.Steps.{at_zero, room_app}
use Rattle.me_unify.proofs.links.Links.ends_flat.Goals as goal

pub ends_at_leaf-requires-clause-within : goal.ends_at_leaf-requires-clause-within
ends_at_leaf-requires-clause-within c =
    let within : c.find-last.result < length c.args.nodes.now = omega (arith, c.find-last.ensures.within, c.requires.nodes) in
    let lt : c.loop-k.k < length c.in-App.args.items = omega (arith, c.loop-k-test.true, c.len-k-end.ensures) in
    let is : c.index.result.now ≡ get_or c.in-App.args.items c.loop-k.k 0 = at_zero c.in-App.args.items c.loop-k.k _ lt c.index.ensures in
    let room = room_app c.args.nodes.now c.find-last.result c.index-nodes-last.result c.in-App.f c.in-App.args within c.index-nodes-last.is c.in-App.is c.requires.fit c.loop-k.k lt in
    omega (arith, is, room)

pub returns-in-Var : goal.returns-in-Var
returns-in-Var c z =
    let within : c.find-last.result < length c.args.nodes.now = omega (arith, c.find-last.ensures.within, c.requires.nodes) in
    let at : slice_get c.args.nodes.now c.find-last.result ≡ Some c.index-nodes-last.result = slice_get-get_or c.args.nodes.now c.find-last.result c.index-nodes-last.result within ∙ ap Some (sym c.index-nodes-last.is) in
    flat_of c.args.nodes.now c.args.self.now c.args.x c.find-last.result c.index-nodes-last.result c.find-last.ensures.last at (ap (λ n. is_flat c.args.nodes.now c.args.self.now (Some n)) c.in-Var.is)

pub returns-after-loop-k : goal.returns-after-loop-k
returns-after-loop-k c z =
    let within : c.find-last.result < length c.args.nodes.now = omega (arith, c.find-last.ensures.within, c.requires.nodes) in
    let at : slice_get c.args.nodes.now c.find-last.result ≡ Some c.index-nodes-last.result = slice_get-get_or c.args.nodes.now c.find-last.result c.index-nodes-last.result within ∙ ap Some (sym c.index-nodes-last.is) in
    flat_of c.args.nodes.now c.args.self.now c.args.x c.find-last.result c.index-nodes-last.result c.find-last.ensures.last at
    (ap (λ n. is_flat c.args.nodes.now c.args.self.now (Some n)) c.in-App.is
    ∙ all_leaves c.args.nodes.now c.args.self.now c.in-App.args.items (λ i lt. c.loop-k.invariant i (omega (arith, lt, c.loop-k-test.false, c.len-k-end.ensures))))
