use Rattle.std.proofs.Common.{Some}
use Rattle.next_rule.specs.AssertSearches.{assert_limits}
use Rattle.next_rule.proofs.AssertSteps.{asserts_so_far, asserts_all}
use Rattle.next_rule.proofs.Cursors.{advances, fewer_limited, limited_to, no_more}
use Rattle.next_rule.proofs.search.Search.asserts_of_place.Goals as goal

pub loop-cursor-smaller : goal.loop-cursor-smaller
loop-cursor-smaller g c =
    let a = c.args in
    let context = g.V.View.context a.self.now.view.now in
    let over = c.loop-cursor.invariant.over in
    let limits = assert_limits a.self.now.bounds.now c.loop-cursor.best in
    fewer_limited context a.clause.now.literals (Some a.place) limits c.loop-cursor.cursor c.advance.new.self c.limit.new.self _ over
    (advances context a.clause.now.literals (Some a.place) limits c.loop-cursor.cursor c.advance.new.self over (c.in_ok-advance.ensures.next c.if-branch.true)) c.in_ok-limit.ensures.limited

pub loop-cursor-preserved : goal.loop-cursor-preserved
loop-cursor-preserved g c =
    let a = c.args in
    let bounds = a.self.now.bounds.now in
    let context = g.V.View.context a.self.now.view.now in
    let limits = assert_limits bounds c.loop-cursor.best in
    asserts_so_far a.self.now.problem.now bounds context a.index a.place a.clause.now c.loop-cursor.cursor c.advance.new.self c.limit.new.self c.tuple.result.now.items a.best c.loop-cursor.best c.in_ok-best.best c.requires.clause_at c.loop-cursor.invariant
    (advances context a.clause.now.literals (Some a.place) limits c.loop-cursor.cursor c.advance.new.self c.loop-cursor.invariant.over (c.in_ok-advance.ensures.next c.if-branch.true)) c.tuple.ensures c.in_ok-best.ensures
    (limited_to context a.clause.now.literals (Some a.place) limits c.advance.new.self c.limit.new.self _ (assert_limits bounds c.in_ok-best.best) c.in_ok-limit.ensures.limited c.limits_before.ensures)

pub returns : goal.returns
returns g c =
    let a = c.args in
    let context = g.V.View.context a.self.now.view.now in
    asserts_all a.self.now.problem.now a.self.now.bounds.now context a.index a.place a.clause.now c.loop-cursor.cursor a.best c.loop-cursor.best c.requires.clause_at c.loop-cursor.invariant
    (no_more context a.clause.now.literals (Some a.place) (assert_limits a.self.now.bounds.now c.loop-cursor.best) c.loop-cursor.cursor c.loop-cursor.invariant.over (c.in_ok-advance.ensures.end c.if-branch.false))
