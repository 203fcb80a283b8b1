use Rattle.std.proofs.Common.{None, ap, ◌∙◌}
use Rattle.me_terms.specs.Values.{ClauseValue}
use Rattle.me_laws.proofs.Determined.{clause_same}
use Rattle.tuple_search.specs.Cursors.{CursorValue}
use Rattle.next_rule.proofs.Cursors.{cursor_begun, advances, fewer, no_more}
use Rattle.candidate_store.proofs.Collected.{keeps_all}
use Rattle.candidate_store.proofs.Unpaired.{unifiers_unmet}
use Rattle.candidate_store.proofs.United.{pivot_limits, unites_none, unites_more, unites_all}
use Rattle.candidate_store.proofs.search.Search.unifiers_at.Goals as goal

pub returns-then-not-are_met-clause-kept : goal.returns-then-not-are_met-clause-kept
returns-then-not-are_met-clause-kept g c = keeps_all c.args.keys.items

pub returns-then-not-are_met-clause-added : goal.returns-then-not-are_met-clause-added
returns-then-not-are_met-clause-added g c =
    let a = c.args in
    unifiers_unmet a.self.now.problem.now (g.V.View.context a.self.now.view.now) a.self.now.pairs.now c.requires.pairs a.self.now.bounds.now a.at a.pivot a.keys.items (c.are_met.ensures c.if-not-are_met.true)

pub loop-cursor-init : goal.loop-cursor-init
loop-cursor-init g c clause at =
    let a = c.args in
    let problem = a.self.now.problem.now in
    let context = g.V.View.context a.self.now.view.now in
    let own = c.clause-clause.result.now in
    let same = clause_same problem a.at.clause own clause c.clause-clause.ensures at in
    unites_none problem a.self.now.bounds.now context a.at a.pivot clause at c.among-cursor.result a.keys.items
    (cursor_begun context clause.literals None (pivot_limits a.at a.pivot) c.among-cursor.result _ c.among-cursor.ensures (ap (λ (z : ClauseValue). z.literals) c.clause.view_is ∙ ap (λ (z : ClauseValue). z.literals) same))
    (ap (λ (z : CursorValue). z.at) c.among-cursor.ensures) (keeps_all a.keys.items)

pub loop-cursor-smaller : goal.loop-cursor-smaller
loop-cursor-smaller g c =
    let a = c.args in
    let context = g.V.View.context a.self.now.view.now in
    let limits = pivot_limits a.at a.pivot in
    let literals = c.clause-clause.result.now.literals in
    let over = (c.loop-cursor.invariant c.clause-clause.result.now c.clause-clause.ensures).over in
    fewer context literals None limits c.loop-cursor.cursor c.advance.new.self over
    (advances context literals None limits c.loop-cursor.cursor c.advance.new.self over (c.in_ok-advance.ensures.next c.if-branch.true))

pub loop-cursor-preserved : goal.loop-cursor-preserved
loop-cursor-preserved g c clause at =
    let a = c.args in
    let bounds = a.self.now.bounds.now in
    let context = g.V.View.context a.self.now.view.now in
    let i = c.loop-cursor.invariant clause at in
    unites_more a.self.now.problem.now bounds context a.at a.pivot clause at c.loop-cursor.cursor c.advance.new.self a.keys.items c.loop-cursor.keys.items c.in_ok-keys.keys.items c.tuple.result.now.items
    (advances context clause.literals None (pivot_limits a.at a.pivot) c.loop-cursor.cursor c.advance.new.self i.over (c.in_ok-advance.ensures.next c.if-branch.true))
    c.tuple.ensures c.in_ok-keys.ensures.kept c.in_ok-keys.ensures.added i

pub returns-clause-kept : goal.returns-clause-kept
returns-clause-kept g c = (c.loop-cursor.invariant c.clause-clause.result.now c.clause-clause.ensures).kept

pub returns-clause-added : goal.returns-clause-added
returns-clause-added g c =
    let a = c.args in
    let bounds = a.self.now.bounds.now in
    let context = g.V.View.context a.self.now.view.now in
    let clause = c.clause-clause.result.now in
    let i = c.loop-cursor.invariant clause c.clause-clause.ensures in
    unites_all a.self.now.problem.now bounds context a.at a.pivot clause c.clause-clause.ensures c.loop-cursor.cursor a.keys.items c.loop-cursor.keys.items i
    (no_more context clause.literals None (pivot_limits a.at a.pivot) c.loop-cursor.cursor i.over (c.in_ok-advance.ensures.end c.if-branch.false))
