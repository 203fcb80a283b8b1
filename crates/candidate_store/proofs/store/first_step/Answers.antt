use Rattle.std.proofs.Common.{subst}
use Rattle.std.specs.Prelude.{IfOk}
use Rattle.me_terms.specs.Context.{Context}
use Rattle.me_terms.specs.Next.{IsNext}
use Rattle.me_terms.specs.AnswerViews.{next_value}
use Rattle.candidate_store.proofs.store.first_step.Goals as goal

pub returns : goal.returns
returns c =
    let P : Context → Type 0 = λ z. IfOk c.next_step.result (λ next. IsNext c.args.problem.now c.args.bounds.now z (next_value next)) in
    subst P c.in_ok-context.ensures c.next_step.ensures.next
