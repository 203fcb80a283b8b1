use Rattle.std.proofs.Common.{None}
use Rattle.next_rule.specs.SplitSearches.{split_limits}
use Rattle.next_rule.proofs.SplitLoops.{splits_so_far, splits_all}
use Rattle.next_rule.proofs.Cursors.{advances, fewer_limited, limited_to, no_more}
use Rattle.next_rule.proofs.search.Search.splits_of_clause.Goals as goal

pub loop-cursor-smaller : goal.loop-cursor-smaller
loop-cursor-smaller g c =
    let a = c.args in
    let context = g.V.View.context a.self.now.view.now in
    let over = c.loop-cursor.invariant.over in
    let limits = split_limits c.loop-cursor.state.best in
    fewer_limited context a.clause.now.literals None limits c.loop-cursor.cursor c.advance.new.self c.limit.new.self _ over
    (advances context a.clause.now.literals None limits c.loop-cursor.cursor c.advance.new.self over (c.in_ok-advance.ensures.next c.if-branch.true)) c.in_ok-limit.ensures.limited

pub loop-cursor-preserved : goal.loop-cursor-preserved
loop-cursor-preserved g c =
    let a = c.args in
    let context = g.V.View.context a.self.now.view.now in
    let limits = split_limits c.loop-cursor.state.best in
    splits_so_far a.self.now.problem.now a.self.now.bounds.now context a.index a.clause.now c.requires.clause_at c.loop-cursor.cursor c.advance.new.self c.limit.new.self c.tuple.result.now.items a.state c.loop-cursor.state c.in_ok-state.state c.loop-cursor.invariant
    (advances context a.clause.now.literals None limits c.loop-cursor.cursor c.advance.new.self c.loop-cursor.invariant.over (c.in_ok-advance.ensures.next c.if-branch.true)) c.tuple.ensures c.in_ok-state.ensures
    (limited_to context a.clause.now.literals None limits c.advance.new.self c.limit.new.self c.limits-in-loop-cursor.result (split_limits c.in_ok-state.state.best) c.in_ok-limit.ensures.limited c.limits-in-loop-cursor.ensures)

pub returns : goal.returns
returns g c =
    let a = c.args in
    let context = g.V.View.context a.self.now.view.now in
    splits_all a.self.now.problem.now a.self.now.bounds.now context a.index a.clause.now c.requires.clause_at c.loop-cursor.cursor a.state c.loop-cursor.state c.loop-cursor.invariant
    (no_more context a.clause.now.literals None (split_limits c.loop-cursor.state.best) c.loop-cursor.cursor c.loop-cursor.invariant.over (c.in_ok-advance.ensures.end c.if-branch.false))
