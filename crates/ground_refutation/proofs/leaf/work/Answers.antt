use Rattle.std.proofs.Common.{inl, inr, refl, sym}
use Rattle.ground_refutation.proofs.Steps.{was_asked, passed}
use Rattle.ground_refutation.proofs.leaf.work.Goals as goal

pub returns-in_default-clause-completes : goal.returns-in_default-clause-completes
returns-in_default-clause-completes g c list h =
    let s = c.args.state.now in
    passed c.args.problem.now (g.V.View.context c.args.view.now) s.asked.keys s.waiting.items s.listing.instances.keys list c.args.demand (inr (c.in_default.ensures.none refl)) h

pub returns-then-contains-clause-completes : goal.returns-then-contains-clause-completes
returns-then-contains-clause-completes g c list h =
    let s = c.args.state.now in
    passed c.args.problem.now (g.V.View.context c.args.view.now) s.asked.keys s.waiting.items s.listing.instances.keys list c.args.demand (inl (was_asked c.args.demand s.asked.keys (sym c.if-contains.ensures))) h
