use Rattle.candidate_store.specs.Searches.{Keeps, HoldsAssertsIn}
use Rattle.candidate_store.proofs.Collected.{ByFirst}
use Rattle.candidate_store.proofs.search.Search.add_asserts_of_clause.Given as goal

abbrev pub invariant-loop-place : goal.invariant-loop-place
invariant-loop-place g l = record {
  kept : Keeps l.fn.asserts l.asserts;
  held : HoldsAssertsIn l.self.problem.now l.self.bounds.now (g.V.View.context l.self.view.now) (ByFirst l.index l.place) l.asserts;
}
