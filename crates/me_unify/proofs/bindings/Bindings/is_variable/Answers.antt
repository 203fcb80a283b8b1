use Rattle.std.proofs.Common.{List, sym, subst, ◌∙◌}
use Rattle.me_unify.specs.Equations.{Equation, IsMostGeneral}
use Rattle.me_unify.proofs.ReadOff.{reads, variable_same}
use Rattle.me_unify.proofs.bindings.Bindings.is_variable.Goals as goal

pub returns : goal.returns
returns c u general =
    let P : List Equation → Type 0 = λ z. IsMostGeneral z u in
    let r = reads c.self.inside.arena.nodes c.self.inside.arena.links c.self.inside.steps.items c.self.invariant in
    c.is_variable.ensures r.0 r.1.read ∙ variable_same _ r.0 u c.args.space c.args.x r.1.general (subst P (sym c.self.view_is) general)
