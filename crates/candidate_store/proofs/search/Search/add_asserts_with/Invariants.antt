use Rattle.std.proofs.Common.{take}
use Rattle.candidate_store.specs.Searches.{Keeps, HoldsAssertsIn}
use Rattle.candidate_store.proofs.Collected.{AssertsAtSome}
use Rattle.candidate_store.proofs.search.Search.add_asserts_with.Given as goal

abbrev pub invariant-loop-at : goal.invariant-loop-at
invariant-loop-at g l = record {
  kept : Keeps l.fn.asserts l.asserts;
  held : HoldsAssertsIn l.self.problem.now l.self.bounds.now (g.V.View.context l.self.view.now) (AssertsAtSome (take l.at-index l.places) l.pivot) l.asserts;
}
