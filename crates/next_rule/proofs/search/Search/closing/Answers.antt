use Rattle.std.proofs.Common.{ℕ, ◌≡◌, length, Some, None, subst, arith}
use Rattle.std.specs.Prelude.{IfSome, IfNone, Option}
use Rattle.me_terms.specs.Sequences.{SequenceValue}
use Rattle.tuple_search.specs.Enumeration.{remainder_limit, IsNextTuple, IsLastTuple}
use Rattle.next_rule.proofs.ClauseReads.{clause_read, all_read}
use Rattle.next_rule.proofs.CloseSteps.{NoneCloses, least_close, none_closes, no_close}
use Rattle.next_rule.proofs.search.Search.closing.Goals as goal

pub returns-in-Some-clause-some : goal.returns-in-Some-clause-some
returns-in-Some-clause-some g c =
    let problem = c.args.self.now.problem.now in
    let context = g.V.View.context c.args.self.now.view.now in
    let at = clause_read problem _ c.as_slice-clause-items.result.now c.loop-c.c c.clause-item.result c.as_slice-clause-items.ensures c.problem.view_is c.loop-c-test.true c.clause-item.is in
    let P : Option (SequenceValue ℕ) → Type 0 = λ z. IfSome z (λ t. IsNextTuple context c.clause-item.result.literals None (remainder_limit (Some 0)) None t.items) in
    least_close problem context c.loop-c.c c.clause-item.result c.in-Some.tuple.items at (subst P c.in-Some.is c.in_ok-tuple.ensures.some) c.loop-c.invariant

pub loop-c-preserved : goal.loop-c-preserved
loop-c-preserved g c =
    let problem = c.args.self.now.problem.now in
    let context = g.V.View.context c.args.self.now.view.now in
    let at = clause_read problem _ c.as_slice-clause-items.result.now c.loop-c.c c.clause-item.result c.as_slice-clause-items.ensures c.problem.view_is c.loop-c-test.true c.clause-item.is in
    let P : Option (SequenceValue ℕ) → Type 0 = λ z. IfNone z (IsLastTuple context c.clause-item.result.literals None (remainder_limit (Some 0)) None) in
    none_closes problem context c.loop-c.c c.clause-item.result at (subst P c.in_default.is c.in_ok-tuple.ensures.none) c.loop-c.invariant

pub returns-clause-none : goal.returns-clause-none
returns-clause-none g c =
    let problem = c.args.self.now.problem.now in
    let context = g.V.View.context c.args.self.now.view.now in
    let at_end : c.loop-c.c ≡ length c.as_slice-clause-items.result.now = omega (arith, c.loop-c.auto.c-end, c.loop-c-test.false) in
    let P : ℕ → Type 0 = λ n. NoneCloses problem context n in
    no_close problem context (subst P (all_read problem _ c.as_slice-clause-items.result.now c.loop-c.c c.as_slice-clause-items.ensures c.problem.view_is at_end) c.loop-c.invariant)
