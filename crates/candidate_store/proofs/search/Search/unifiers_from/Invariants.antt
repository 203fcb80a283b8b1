use Rattle.candidate_store.specs.Searches.{PivotWithin, HaveUnifiersIn}
use Rattle.candidate_store.proofs.search.Search.unifiers_from.Given as goal

abbrev pub invariant-loop-pivot : goal.invariant-loop-pivot
invariant-loop-pivot g l =
    HaveUnifiersIn l.self.problem.now l.self.bounds.now (g.V.View.context l.self.view.now) (PivotWithin l.from l.pivot) l.keys.items
