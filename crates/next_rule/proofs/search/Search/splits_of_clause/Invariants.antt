use Rattle.next_rule.proofs.Cursors.{cursor_left}
use Rattle.next_rule.proofs.SplitLoops.{SplitsSoFar}
use Rattle.next_rule.proofs.search.Search.splits_of_clause.Given as goal

abbrev pub invariant-loop-cursor : goal.invariant-loop-cursor
invariant-loop-cursor g l =
    SplitsSoFar l.self.problem.now l.self.bounds.now (g.V.View.context l.self.view.now) l.index l.clause l.cursor l.initial.state l.state

abbrev pub decreases-loop-cursor : goal.decreases-loop-cursor
decreases-loop-cursor g l = cursor_left l.cursor
