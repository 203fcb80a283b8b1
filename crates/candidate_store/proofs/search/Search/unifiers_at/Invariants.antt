use Rattle.me_terms.specs.Values.{ClauseValue}
use Rattle.me_terms.specs.Positions.{ClauseAt}
use Rattle.next_rule.proofs.Cursors.{cursor_left}
use Rattle.candidate_store.proofs.United.{Unites}
use Rattle.candidate_store.proofs.search.Search.unifiers_at.Given as goal

abbrev pub invariant-loop-cursor : goal.invariant-loop-cursor
invariant-loop-cursor g l =
    (clause : ClauseValue) → ClauseAt l.self.problem.now l.at.clause clause → Unites l.self.problem.now l.self.bounds.now (g.V.View.context l.self.view.now) l.at l.pivot clause l.cursor l.initial.keys.items l.keys.items

abbrev pub decreases-loop-cursor : goal.decreases-loop-cursor
decreases-loop-cursor g l = cursor_left l.cursor
