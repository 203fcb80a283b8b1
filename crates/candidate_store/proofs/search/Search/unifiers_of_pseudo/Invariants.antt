use Rattle.candidate_store.specs.Searches.{HaveUnifiersIn}
use Rattle.candidate_store.proofs.United.{PseudoBefore}
use Rattle.candidate_store.proofs.search.Search.unifiers_of_pseudo.Given as goal

abbrev pub invariant-loop-clause : goal.invariant-loop-clause
invariant-loop-clause g l =
    HaveUnifiersIn l.self.problem.now l.self.bounds.now (g.V.View.context l.self.view.now) (PseudoBefore l.clause) l.keys.items
