use Rattle.next_rule.proofs.CloseSteps.{NoneCloses}
use Rattle.next_rule.proofs.search.Search.closing.Given as goal

abbrev pub invariant-loop-c : goal.invariant-loop-c
invariant-loop-c g l = NoneCloses l.self.problem.now (g.V.View.context l.self.view.now) l.c
