use Rattle.next_rule.proofs.Cursors.{cursor_left}
use Rattle.candidate_store.proofs.Asserted.{Passes}
use Rattle.candidate_store.proofs.search.Search.add_asserts_of_place.Given as goal

abbrev pub invariant-loop-cursor : goal.invariant-loop-cursor
invariant-loop-cursor g l =
    Passes l.self.problem.now l.self.bounds.now (g.V.View.context l.self.view.now) l.index l.place l.clause l.fn.pivot l.cursor l.fn.asserts l.asserts

abbrev pub decreases-loop-cursor : goal.decreases-loop-cursor
decreases-loop-cursor g l = cursor_left l.cursor
