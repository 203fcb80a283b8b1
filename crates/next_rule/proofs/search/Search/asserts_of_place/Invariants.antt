use Rattle.next_rule.proofs.AssertSteps.{AssertsSoFar}
use Rattle.next_rule.proofs.Cursors.{cursor_left}
use Rattle.next_rule.proofs.search.Search.asserts_of_place.Given as goal

abbrev pub invariant-loop-cursor : goal.invariant-loop-cursor
invariant-loop-cursor g l =
    AssertsSoFar l.self.problem.now l.self.bounds.now (g.V.View.context l.self.view.now) l.index l.place l.clause l.cursor l.initial.best l.best

abbrev pub decreases-loop-cursor : goal.decreases-loop-cursor
decreases-loop-cursor g l = cursor_left l.cursor
