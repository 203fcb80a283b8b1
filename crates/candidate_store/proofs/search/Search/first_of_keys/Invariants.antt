use Rattle.std.proofs.Common.{take}
use Rattle.candidate_store.specs.Firsts.{IsBest, MeetsMore, AreMet}
use Rattle.candidate_store.proofs.search.Search.first_of_keys.Given as goal

abbrev pub invariant-loop-key : goal.invariant-loop-key
invariant-loop-key g l = record {
  right : IsBest l.self.problem.now l.self.bounds.now (g.V.View.context l.self.view.now) l.best;
  more : MeetsMore l.self.problem.now l.self.bounds.now (g.V.View.context l.self.view.now) l.initial.best l.best;
  met : AreMet l.self.problem.now l.self.bounds.now (g.V.View.context l.self.view.now) (take l.key-index l.keys) l.best;
}
