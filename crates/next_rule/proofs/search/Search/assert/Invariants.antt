use Rattle.std.proofs.Common.{None}
use Rattle.next_rule.specs.AssertSearches.{AssertClauses, TakesAsserts}
use Rattle.next_rule.proofs.search.Search.assert.Given as goal

abbrev pub invariant-loop-c : goal.invariant-loop-c
invariant-loop-c g l =
    TakesAsserts l.self.problem.now l.self.bounds.now (g.V.View.context l.self.view.now) (AssertClauses l.c) None l.best
