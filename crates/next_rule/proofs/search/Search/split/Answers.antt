use Rattle.std.proofs.Common.{ℕ, ◌≡◌, length, None, subst, arith}
use Rattle.next_rule.specs.SplitSearches.{SplitClauses, Looks}
use Rattle.next_rule.proofs.ClauseReads.{all_read}
use Rattle.next_rule.proofs.SplitLoops.{looks_clause, split_result}
use Rattle.next_rule.proofs.search.Search.split.Goals as goal

pub loop-c-preserved : goal.loop-c-preserved
loop-c-preserved g c =
    looks_clause c.args.self.now.problem.now c.args.self.now.bounds.now (g.V.View.context c.args.self.now.view.now) c.loop-c.c (record { best = None; met = None }) c.loop-c.state c.in_ok-state.state c.loop-c.invariant c.in_ok-state.ensures

pub returns : goal.returns
returns g c =
    let problem = c.args.self.now.problem.now in
    let bounds = c.args.self.now.bounds.now in
    let context = g.V.View.context c.args.self.now.view.now in
    let at_end : c.loop-c.c ≡ length c.as_slice-clause-items.result.now = omega (arith, c.loop-c.auto.c-end, c.loop-c-test.false) in
    let all = all_read problem _ c.as_slice-clause-items.result.now c.loop-c.c c.as_slice-clause-items.ensures c.problem.view_is at_end in
    let P : ℕ → Type 0 = λ n. Looks problem bounds context (SplitClauses n) (record { best = None; met = None }) c.loop-c.state in
    split_result problem bounds context c.loop-c.state (subst P all c.loop-c.invariant)
