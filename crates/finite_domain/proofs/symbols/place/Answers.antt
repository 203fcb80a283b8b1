use Rattle.std.proofs.Common.{eqb, ◌∙◌}
use Rattle.me_terms.proofs.Numbered.{place_is}
use Rattle.finite_domain.proofs.Making.{place_some, place_none}
use Rattle.finite_domain.proofs.symbols.place.Goals as goal

pub returns-in-Some-clause-place : goal.returns-in-Some-clause-place
returns-in-Some-clause-place c =
    place_some (eqb c.args.pred) c.args.order.now.keys c.in-Some.place c.in-Some.ensures.index ∙ place_is c.args.pred c.args.order.now.keys

pub returns-in-None-clause-place : goal.returns-in-None-clause-place
returns-in-None-clause-place c =
    c.len.ensures.len ∙ place_none (eqb c.args.pred) c.args.order.now.keys c.in-None.ensures.index ∙ place_is c.args.pred c.args.order.now.keys
