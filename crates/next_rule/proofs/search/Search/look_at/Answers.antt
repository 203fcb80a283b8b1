use Rattle.next_rule.proofs.SplitLooks.{found_unifying, chosen_place}
use Rattle.next_rule.proofs.search.Search.look_at.Goals as goal

pub with_choice-requires-clause-unifying : goal.with_choice-requires-clause-unifying
with_choice-requires-clause-unifying g c =
    found_unifying (g.V.View.context c.args.self.now.view.now) c.args.clause.now c.args.tuple.now.items c.in_ok-unifier.field-0 c.in-Some.unifier c.in-Some.is c.in_ok-unifier.ensures.exact c.in_ok-unifier.ensures.unifier

pub with_choice-requires-clause-place : goal.with_choice-requires-clause-place
with_choice-requires-clause-place g c =
    chosen_place (g.V.View.context c.args.self.now.view.now) c.args.clause.now c.args.tuple.now.items c.in_ok-unifier.field-0 c.in-Some.unifier c.in-Some.is c.in_ok-unifier.ensures.exact c.in_ok-unifier.ensures.unifier c.args.self.now.bounds.now c.in-Some-split_of.choice c.in-Some-split_of.ensures.chosen

pub without_choice-requires-clause-unifying : goal.without_choice-requires-clause-unifying
without_choice-requires-clause-unifying g c =
    found_unifying (g.V.View.context c.args.self.now.view.now) c.args.clause.now c.args.tuple.now.items c.in_ok-unifier.field-0 c.in-Some.unifier c.in-Some.is c.in_ok-unifier.ensures.exact c.in_ok-unifier.ensures.unifier
