use Rattle.me_terms.specs.AnswerViews.{next_value}
use Rattle.next_rule.proofs.NextSteps.{may_be_added, model_where_exhausted}
use Rattle.next_rule.proofs.next.next_step.Goals as goal

pub returns-clause-added : goal.returns-clause-added
returns-clause-added g c =
    λ e. may_be_added c.args.problem.now c.args.bounds.now (g.V.View.context c.args.view.now) (next_value c.in_ok-next.field-0) e c.len-entries.ensures.is_context c.in_ok-next.ensures

pub returns-clause-model : goal.returns-clause-model
returns-clause-model g c =
    model_where_exhausted c.args.problem.now c.args.bounds.now (g.V.View.context c.args.view.now) (next_value c.in_ok-next.field-0) c.len-entries.ensures.is_context c.in_ok-next.ensures
