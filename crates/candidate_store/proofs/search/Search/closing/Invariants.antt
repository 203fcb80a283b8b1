use Rattle.std.proofs.Common.{take}
use Rattle.candidate_store.specs.Searches.{FoundClose}
use Rattle.candidate_store.proofs.Collected.{AtSome}
use Rattle.candidate_store.proofs.search.Search.closing.Given as goal

abbrev pub invariant-loop-at : goal.invariant-loop-at
invariant-loop-at g l = FoundClose l.self.problem.now (g.V.View.context l.self.view.now) (AtSome (take l.at-index l.places) l.pivot) l.best
