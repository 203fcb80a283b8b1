use Rattle.next_rule.specs.AssertSearches.{AssertPlaces, TakesAsserts}
use Rattle.next_rule.proofs.search.Search.asserts_of_clause.Given as goal

abbrev pub invariant-loop-place : goal.invariant-loop-place
invariant-loop-place g l =
    TakesAsserts l.self.problem.now l.self.bounds.now (g.V.View.context l.self.view.now) (AssertPlaces l.index l.place) l.initial.best l.best
