use Rattle.candidate_store.specs.Searches.{HoldsAssertsIn}
use Rattle.candidate_store.proofs.Collected.{InFirst}
use Rattle.candidate_store.proofs.search.Search.add_all_asserts.Given as goal

abbrev pub invariant-loop-clause : goal.invariant-loop-clause
invariant-loop-clause g l =
    HoldsAssertsIn l.self.problem.now l.self.bounds.now (g.V.View.context l.self.view.now) (InFirst l.clause) l.asserts
