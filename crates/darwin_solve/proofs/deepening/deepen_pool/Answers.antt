use Rattle.std.proofs.Common.{refl, subst}
use Rattle.me_terms.specs.Answer.{AnswerValue, HasAnswer}
use Rattle.me_terms.specs.AnswerViews.{answer_value}
use Rattle.me_terms.specs.declared.bounds.Bounds.{Bounds}
use Rattle.darwin_solve.proofs.Depths.{goes_deeper, stops_here}
use Rattle.darwin_solve.proofs.deepening.deepen_pool.Goals as goal

pub deepen-preserved : goal.deepen-preserved
deepen-preserved g c =
    let problem = c.args.problem.now in
    let met = c.in-Some.ensures.exactly.0 refl in
    let P : Bounds × AnswerValue → Type 0 = λ z. HasAnswer problem z.0 z.1 in
    let answered = subst P (λ i. (c.with_depth-deep.ensures i, met.0 i)) c.in_ok-answer.ensures.answer in
    goes_deeper problem c.args.bounds.now c.args.from c.deepen.depth c.deepen.invariant answered met.1 c.in-Some.deeper c.in-Some.ensures.deeper

pub returns-in-None-clause-answer : goal.returns-in-None-clause-answer
returns-in-None-clause-answer g c =
    let problem = c.args.problem.now in
    let reply = answer_value c.in_ok-answer.answer in
    let P : Bounds → Type 0 = λ b. HasAnswer problem b reply in
    let answered = subst P c.with_depth-deep.ensures c.in_ok-answer.ensures.answer in
    stops_here problem c.args.bounds.now c.args.from c.deepen.depth c.deepen.invariant reply answered (λ next. let bad = c.in-None.ensures.exactly.1 next in cc bad)
