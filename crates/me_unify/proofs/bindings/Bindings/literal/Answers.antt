use Rattle.std.proofs.Common.{List, sym, subst, ◌∙◌}
use Rattle.me_unify.specs.Equations.{Equation, IsMostGeneral}
use Rattle.me_unify.proofs.ReadOff.{reads, canonical_literal_same}
use Rattle.me_unify.proofs.bindings.Bindings.literal.Goals as goal

pub returns : goal.returns
returns c = record {
  form = λ u general.
      let P : List Equation → Type 0 = λ z. IsMostGeneral z u in
      let r = reads c.self.inside.arena.nodes c.self.inside.arena.links c.self.inside.steps.items c.self.invariant in
      c.in_ok-write_literal.ensures r.0 r.1.read ∙ canonical_literal_same _ r.0 u c.args.space c.args.lit.now r.1.general (subst P (sym c.self.view_is) general);
}
