use Rattle.candidate_store.specs.Searches.{Keeps, HoldsAssertsIn}
use Rattle.candidate_store.proofs.Collected.{BesideFirst}
use Rattle.candidate_store.proofs.search.Search.add_asserts_at.Given as goal

abbrev pub invariant-loop-place : goal.invariant-loop-place
invariant-loop-place g l = record {
  kept : Keeps l.fn.asserts l.asserts;
  held : HoldsAssertsIn l.self.problem.now l.self.bounds.now (g.V.View.context l.self.view.now) (BesideFirst l.at l.place l.pivot) l.asserts;
}
