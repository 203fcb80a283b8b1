use Rattle.std.proofs.Common.{◌≡◌, ◌≤◌, length, ap, ◌∙◌, arith}
use Rattle.me_terms.specs.Values.{ProblemValue}
use Rattle.next_rule.proofs.Answers.{not_so}
use Rattle.next_rule.proofs.ClauseReads.{clause_read}
use Rattle.answer_check.proofs.ModelSearches.{none_at_all, none_more}
use Rattle.answer_check.proofs.model.first_productive.Goals as goal

pub loop-clause-preserved : goal.loop-clause-preserved
loop-clause-preserved c =
    let problem = c.args.problem.now in
    let at = clause_read problem _ c.as_slice-clause-items.result.now c.loop-clause.clause-index c.clause-item.result c.as_slice-clause-items.ensures c.problem.view_is c.loop-clause-test.true c.clause-item.is in
    none_more problem c.args.context.now c.loop-clause.clause-index c.clause-item.result at c.loop-clause.invariant (not_so _ _ c.in_ok-has_productive.ensures c.if-branch.false)

pub returns : goal.returns
returns c =
    let problem = c.args.problem.now in
    let same : c.as_slice-clause-items.result.now ≡ problem.clauses = c.as_slice-clause-items.ensures ∙ ap (λ (z : ProblemValue). z.clauses) c.problem.view_is in
    let many = ap length same in
    let past : length problem.clauses ≤ c.loop-clause.clause-index = omega (arith, many, c.loop-clause-test.false) in
    none_at_all problem c.args.context.now c.loop-clause.clause-index past c.loop-clause.invariant
