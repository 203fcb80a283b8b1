use Rattle.std.proofs.Common.{sym}
use Rattle.me_terms.specs.Context.{StandsAt}
use Rattle.induced_model.proofs.Producers.{produces_of, yields_of}
use Rattle.induced_model.proofs.production.produces_at.Goals as goal

pub returns-then-visible : goal.returns-then-visible
returns-then-visible g c =
    let context = g.V.View.context c.args.view.now in
    let stands : StandsAt context c.args.k c.in-Some.entry.now = sym c.in-Some.ensures.item in (
      λ t. produces_of context c.args.k _ c.args.positive c.args.atom.now stands (c.visible.ensures.0 c.if-visible.true) (c.yields.ensures.0 t),
      λ p. c.yields.ensures.1 (yields_of context c.args.k _ c.args.positive c.args.atom.now stands p),
    )
