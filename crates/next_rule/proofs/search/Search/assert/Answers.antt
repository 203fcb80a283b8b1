use Rattle.std.proofs.Common.{ℕ, ◌≡◌, length, None, Option, subst, sym, arith}
use Rattle.me_terms.specs.Values.{EntryValue}
use Rattle.me_terms.specs.Order.{IsLeastAssert}
use Rattle.next_rule.specs.AssertSearches.{AssertClauses, TakesAsserts}
use Rattle.next_rule.proofs.ClauseReads.{all_read}
use Rattle.next_rule.proofs.AssertSteps.{assert_clause_step, assert_none, assert_some}
use Rattle.next_rule.proofs.search.Search.assert.Goals as goal

pub loop-c-preserved : goal.loop-c-preserved
loop-c-preserved g c =
    assert_clause_step c.args.self.now.problem.now c.args.self.now.bounds.now (g.V.View.context c.args.self.now.view.now) c.loop-c.c None c.loop-c.best c.in_ok-best.best c.loop-c.invariant c.in_ok-best.ensures

pub returns-in-Some-clause-some : goal.returns-in-Some-clause-some
returns-in-Some-clause-some g c =
    let problem = c.args.self.now.problem.now in
    let bounds = c.args.self.now.bounds.now in
    let context = g.V.View.context c.args.self.now.view.now in
    let at_end : c.loop-c.c ≡ length c.as_slice-clause-items.result.now = omega (arith, c.loop-c.auto.c-end, c.loop-c-test.false) in
    let all = all_read problem _ c.as_slice-clause-items.result.now c.loop-c.c c.as_slice-clause-items.ensures c.problem.view_is at_end in
    let P : ℕ × Option EntryValue → Type 0 = λ z. TakesAsserts problem bounds context (AssertClauses z.0) None z.1 in
    let Q : EntryValue → Type 0 = λ z. IsLeastAssert problem bounds context z in
    subst Q (sym c.into_entry.ensures) (assert_some problem bounds context c.in-Some.candidate (subst P (λ i. (all i, c.in-Some.is i)) c.loop-c.invariant))

pub returns-in-None-clause-none : goal.returns-in-None-clause-none
returns-in-None-clause-none g c =
    let problem = c.args.self.now.problem.now in
    let bounds = c.args.self.now.bounds.now in
    let context = g.V.View.context c.args.self.now.view.now in
    let at_end : c.loop-c.c ≡ length c.as_slice-clause-items.result.now = omega (arith, c.loop-c.auto.c-end, c.loop-c-test.false) in
    let all = all_read problem _ c.as_slice-clause-items.result.now c.loop-c.c c.as_slice-clause-items.ensures c.problem.view_is at_end in
    let P : ℕ × Option EntryValue → Type 0 = λ z. TakesAsserts problem bounds context (AssertClauses z.0) None z.1 in
    assert_none problem bounds context (subst P (λ i. (all i, c.in-None.is i)) c.loop-c.invariant)
