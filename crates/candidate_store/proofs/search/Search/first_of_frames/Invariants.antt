use Rattle.candidate_store.specs.Firsts.{IsBest, MeetsMore}
use Rattle.candidate_store.proofs.MetKeys.{FirstMet}
use Rattle.candidate_store.proofs.search.Search.first_of_frames.Given as goal

abbrev pub invariant-loop-frame : goal.invariant-loop-frame
invariant-loop-frame g l = record {
  right : IsBest l.self.problem.now l.self.bounds.now (g.V.View.context l.self.view.now) l.best;
  more : MeetsMore l.self.problem.now l.self.bounds.now (g.V.View.context l.self.view.now) l.initial.best l.best;
  met : FirstMet l.self.problem.now l.self.bounds.now (g.V.View.context l.self.view.now) l.frames l.frame-index l.best;
}
