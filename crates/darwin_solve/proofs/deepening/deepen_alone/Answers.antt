use Rattle.std.proofs.Common.{refl, subst}
use Rattle.me_terms.specs.Answer.{AnswerValue, HasAnswer}
use Rattle.me_terms.specs.declared.bounds.Bounds.{Bounds}
use Rattle.darwin_solve.proofs.Depths.{goes_deeper}
use Rattle.darwin_solve.proofs.deepening.deepen_alone.Goals as goal

pub deepen-preserved : goal.deepen-preserved
deepen-preserved c =
    let problem = c.args.problem.now in
    let met = c.in-Some.ensures.exactly.0 refl in
    let P : Bounds × AnswerValue → Type 0 = λ z. HasAnswer problem z.0 z.1 in
    let answered = subst P (λ i. (c.with_depth.ensures i, met.0 i)) c.in_ok-answer.ensures.answer in
    goes_deeper problem c.args.bounds.now c.args.from c.deepen.depth c.deepen.invariant answered met.1 c.in-Some.deeper c.in-Some.ensures.deeper
