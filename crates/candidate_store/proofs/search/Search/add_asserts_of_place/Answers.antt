use Rattle.std.proofs.Common.{Some, ap}
use Rattle.me_terms.specs.Values.{ClauseValue}
use Rattle.tuple_search.specs.Cursors.{CursorValue}
use Rattle.next_rule.proofs.Cursors.{cursor_begun, advances, fewer, no_more}
use Rattle.candidate_store.proofs.Collected.{keeps_all}
use Rattle.candidate_store.proofs.Unpaired.{assert_unpaired}
use Rattle.candidate_store.proofs.Asserted.{asked_of, passes_none, passes_more, passes_all}
use Rattle.candidate_store.proofs.search.Search.add_asserts_of_place.Goals as goal

pub returns-then-not-are_paired-clause-added : goal.returns-then-not-are_paired-clause-added
returns-then-not-are_paired-clause-added g c =
    let a = c.args in
    assert_unpaired a.self.now.problem.now (g.V.View.context a.self.now.view.now) a.self.now.pairs.now c.requires.pairs a.self.now.bounds.now c.len-entries.ensures.is_context a.index a.place a.pivot _ a.asserts.now c.of_clause-lists.ensures (c.are_paired.ensures c.if-not-are_paired.true)

pub loop-cursor-init : goal.loop-cursor-init
loop-cursor-init g c =
    let a = c.args in
    let bounds = a.self.now.bounds.now in
    let context = g.V.View.context a.self.now.view.now in
    let clause = c.clause-clause.result.now in
    passes_none a.self.now.problem.now bounds context a.index a.place clause a.pivot c.clause-clause.ensures c.among-cursor.result a.asserts.now
    (cursor_begun context clause.literals (Some a.place) (asked_of bounds a.pivot) c.among-cursor.result _ c.among-cursor.ensures (ap (λ (z : ClauseValue). z.literals) c.clause.view_is))
    (ap (λ (z : CursorValue). z.at) c.among-cursor.ensures) (keeps_all a.asserts.now)

pub loop-cursor-smaller : goal.loop-cursor-smaller
loop-cursor-smaller g c =
    let a = c.args in
    let context = g.V.View.context a.self.now.view.now in
    let limits = asked_of a.self.now.bounds.now a.pivot in
    let literals = c.clause-clause.result.now.literals in
    let over = c.loop-cursor.invariant.over in
    fewer context literals (Some a.place) limits c.loop-cursor.cursor c.advance.new.self over
    (advances context literals (Some a.place) limits c.loop-cursor.cursor c.advance.new.self over (c.in_ok-advance.ensures.next c.if-branch.true))

pub loop-cursor-preserved : goal.loop-cursor-preserved
loop-cursor-preserved g c =
    let a = c.args in
    let bounds = a.self.now.bounds.now in
    let context = g.V.View.context a.self.now.view.now in
    let clause = c.clause-clause.result.now in
    passes_more a.self.now.problem.now bounds context a.index a.place clause a.pivot c.clause-clause.ensures c.loop-cursor.cursor c.advance.new.self a.asserts.now c.loop-cursor.asserts c.add_assert.new.asserts c.tuple.result.now.items
    (advances context clause.literals (Some a.place) (asked_of bounds a.pivot) c.loop-cursor.cursor c.advance.new.self c.loop-cursor.invariant.over (c.in_ok-advance.ensures.next c.if-branch.true))
    c.tuple.ensures c.in_ok-add_assert.ensures.kept c.in_ok-add_assert.ensures.added c.loop-cursor.invariant

pub returns-clause-added : goal.returns-clause-added
returns-clause-added g c =
    let a = c.args in
    let bounds = a.self.now.bounds.now in
    let context = g.V.View.context a.self.now.view.now in
    let clause = c.clause-clause.result.now in
    passes_all a.self.now.problem.now bounds context a.index a.place clause a.pivot c.clause-clause.ensures c.loop-cursor.cursor a.asserts.now c.loop-cursor.asserts c.loop-cursor.invariant
    (no_more context clause.literals (Some a.place) (asked_of bounds a.pivot) c.loop-cursor.cursor c.loop-cursor.invariant.over (c.in_ok-advance.ensures.end c.if-branch.false))
