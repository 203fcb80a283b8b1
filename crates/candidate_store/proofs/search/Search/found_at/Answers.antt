use Rattle.candidate_store.proofs.Found.{some_remains, chosen_place, found_is, found_met}
use Rattle.kept_asserts.proofs.Ranked.{where_some, where_none}
use Rattle.candidate_store.proofs.search.Search.found_at.Goals as goal

pub step_by-requires-clause-some : goal.step_by-requires-clause-some
step_by-requires-clause-some g c =
    some_remains c.args.self.now.problem.now (g.V.View.context c.args.self.now.view.now) c.args.index c.args.tuple.now.items c.in-Some.unifier
    (where_some c.in_ok-unifier.field-0 c.in-Some.unifier _ c.in-Some.is c.in_ok-unifier.ensures.some) c.requires.open

pub returns-in_default-clause-met : goal.returns-in_default-clause-met
returns-in_default-clause-met g c = λ clause f h. absurd (where_none c.in_ok-unifier.field-0 _ c.in_default.is c.in_ok-unifier.ensures.none clause f h)

pub returns-clause-right : goal.returns-clause-right
returns-clause-right g c =
    found_is c.args.self.now.problem.now (g.V.View.context c.args.self.now.view.now) c.args.index c.args.tuple.now.items c.in-Some.unifier
    (where_some c.in_ok-unifier.field-0 c.in-Some.unifier _ c.in-Some.is c.in_ok-unifier.ensures.some)
    c.args.self.now.bounds.now c.split_of-choice.result c.split_of-choice.ensures.rule c.requires.open c.requires.no_assert _ c.in_ok-key.ensures c.in_ok-step.ensures

pub returns-clause-met : goal.returns-clause-met
returns-clause-met g c =
    λ clause f h. found_met c.args.self.now.problem.now (g.V.View.context c.args.self.now.view.now) c.args.index c.args.tuple.now.items c.in-Some.unifier
    (where_some c.in_ok-unifier.field-0 c.in-Some.unifier _ c.in-Some.is c.in_ok-unifier.ensures.some)
    c.args.self.now.bounds.now c.split_of-choice.result c.split_of-choice.ensures.rule _ c.in_ok-key.ensures

pub step_by-requires-clause-place : goal.step_by-requires-clause-place
step_by-requires-clause-place g c =
    chosen_place c.args.self.now.problem.now (g.V.View.context c.args.self.now.view.now) c.args.index c.args.tuple.now.items c.in-Some.unifier
    (where_some c.in_ok-unifier.field-0 c.in-Some.unifier _ c.in-Some.is c.in_ok-unifier.ensures.some)
    c.args.self.now.bounds.now c.split_of-choice.result c.split_of-choice.ensures.rule
