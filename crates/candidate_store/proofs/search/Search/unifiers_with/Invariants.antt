use Rattle.std.proofs.Common.{take}
use Rattle.candidate_store.specs.Searches.{Keeps, HaveUnifiersIn}
use Rattle.candidate_store.proofs.Collected.{AtSome}
use Rattle.candidate_store.proofs.search.Search.unifiers_with.Given as goal

abbrev pub invariant-loop-at : goal.invariant-loop-at
invariant-loop-at g l = record {
  kept : Keeps l.initial.keys.items l.keys.items;
  held : HaveUnifiersIn l.self.problem.now l.self.bounds.now (g.V.View.context l.self.view.now) (AtSome (take l.at-index l.places) l.pivot) l.keys.items;
}
