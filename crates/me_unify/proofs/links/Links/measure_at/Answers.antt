use Rattle.std.proofs.Common.{◌≡◌, ◌<◌, get_or, length, slice_get, Some, refl, ap, sym, ◌∙◌, arith}
use Rattle.std.proofs.lemmas.Option.{slice_get-get_or}
use Rattle.me_unify.specs.declared.node.Node.TheVariants.{Var, App}
use Rattle.me_unify.specs.Linked.{NONE}
use Rattle.me_unify.proofs.Steps.{at_zero, room_app}
use Rattle.me_unify.proofs.Measures.{var_measure, app_measure}
use Rattle.me_unify.proofs.links.Links.measure_at.Goals as goal

pub measure_all-all-requires : goal.measure_all-all-requires
measure_all-all-requires c =
    record { within = rw (c.deref.ensures.value, c.requires.size) (room_app c.args.nodes.now c.args.x c.index-nodes-x.result c.in-App.f c.in-App.args c.requires.within c.index-nodes-x.is c.in-App.is c.requires.fit) }

pub returns-in-Var : goal.returns-in-Var
returns-in-Var c h reading below =
    let w : c.args.x < length c.args.self.now.place.items = omega (arith, c.requires.within, c.requires.nodes) in
    let free : get_or c.args.self.now.place.items c.args.x 0 ≡ NONE = sym (at_zero c.args.self.now.place.items c.args.x _ w c.index-k.ensures) ∙ c.if-k.false in
    let at : slice_get c.args.nodes.now c.args.x ≡ Some (Var c.in-Var.space c.in-Var.var) = slice_get-get_or c.args.nodes.now c.args.x c.index-nodes-x.result c.requires.within ∙ ap Some (sym c.index-nodes-x.is ∙ c.in-Var.is) in
    let q = reading.vars c.args.x c.in-Var.space c.in-Var.var free at in
    var_measure (h c.args.x) q.0 (record { weight = 1; depth = 1; ground = Rattle.std.proofs.Common.false }) q.1 refl refl refl

pub returns-in-App : goal.returns-in-App
returns-in-App c h reading below =
    let w : c.args.x < length c.args.self.now.place.items = omega (arith, c.requires.within, c.requires.nodes) in
    let free : get_or c.args.self.now.place.items c.args.x 0 ≡ NONE = sym (at_zero c.args.self.now.place.items c.args.x _ w c.index-k.ensures) ∙ c.if-k.false in
    let at : slice_get c.args.nodes.now c.args.x ≡ Some (App c.in-App.f c.in-App.args) = slice_get-get_or c.args.nodes.now c.args.x c.index-nodes-x.result c.requires.within ∙ ap Some (sym c.index-nodes-x.is ∙ c.in-App.is) in
    let all = rw c.deref.ensures.value at (c.measure_all-all.ensures h) in
    app_measure (h c.args.x) c.in-App.f _ c.measure_all-all.result (record { weight = c.saturating_add.result; depth = c.saturating_add-in-App.result; ground = c.measure_all-all.result.ground }) (reading.apps c.args.x c.in-App.f c.in-App.args free at)
    (all (λ i lt. below.apps free c.in-App.f c.in-App.args at i lt)) c.saturating_add.ensures c.saturating_add-in-App.ensures refl
