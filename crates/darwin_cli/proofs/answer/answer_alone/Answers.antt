use Rattle.me_terms.specs.AnswerViews.{answer_value}
use Rattle.me_terms.specs.declared.answer.Answer.{Answer}
use Rattle.szs_print.specs.Printable.{IsPrintable}
use Rattle.darwin_solve.specs.Evidence.{IsOverProblem}
use Rattle.darwin_cli.proofs.Causes.{if_ok}
use Rattle.darwin_cli.proofs.Known.{printable_is, sure_is}
use Rattle.darwin_cli.proofs.answer.answer_alone.Goals as goal

pub returns-clause-sure : goal.returns-clause-sure
returns-clause-sure c =
    let found = c.deepen_alone.ensures in
    sure_is c.args.problem.now c.args.options.now.bounds c.args.options.now.from c.deepen_alone.result found.answer found.refuted found.model found.function_free

pub returns-clause-printable : goal.returns-clause-printable
returns-clause-printable c =
    let P : Answer → Type 0 = λ answer. IsOverProblem c.args.problem.now (answer_value answer) in
    let Q : Answer → Type 0 = λ answer. IsPrintable c.args.problem.now answer in
    if_ok c.deepen_alone.result P Q (λ answer over. printable_is c.args.problem.now answer over) c.deepen_alone.ensures.printable
