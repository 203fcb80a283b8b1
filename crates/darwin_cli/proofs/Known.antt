-- What is answered is sure, and can be printed.
use Rattle.std.proofs.Common.{Result, Ok, Err, ℕ}
use Rattle.std.specs.Prelude.{IfOk}
use Rattle.me_terms.specs.Values.{ProblemValue}
use Rattle.me_terms.specs.AnswerViews.{answer_value}
use Rattle.me_terms.specs.declared.answer.Answer.{Answer}
use Rattle.me_terms.specs.declared.answer.Answer.TheVariants.{Unsatisfiable, Satisfiable, GaveUp}
use Rattle.szs_print.specs.Printable.{IsPrintable}
use Rattle.me_terms.specs.Deepening.{HasAnswerFrom}
use Rattle.me_terms.specs.declared.bounds.Bounds.{Bounds}
use Rattle.me_laws_counting.specs.FunctionFree.{IsFunctionFree, IsRoomy}
use Rattle.darwin_solve.specs.Evidence.{HasRefutation, HasModel, MeetsOnlyList, IsOverProblem}
use Rattle.darwin_cli.specs.Outcome.{IsSure}

-- an answer that speaks of the problem alone can be printed
pub printable_is : (problem : ProblemValue) (answer : Answer) → IsOverProblem problem (answer_value answer) → IsPrintable problem answer
printable_is problem (Unsatisfiable list) over = over
printable_is problem (Satisfiable context) over = over
printable_is problem (GaveUp b) over = tt

-- an answer with all that comes with it is sure
pub sure_is : {E : Type 0} (problem : ProblemValue) (bounds : Bounds) (from : ℕ) (r : Result Answer E) → IfOk r (λ answer. HasAnswerFrom problem bounds from (answer_value answer)) → IfOk r (λ answer. HasRefutation problem bounds (answer_value answer)) → IfOk r (λ answer. HasModel problem (answer_value answer)) → IfOk r (λ answer. IsFunctionFree problem → IsRoomy problem bounds → MeetsOnlyList (answer_value answer)) → IfOk r (λ answer. IsSure problem bounds from (answer_value answer))
sure_is problem bounds from (Ok answer) is_answer refuted model function_free =
    record { is_answer = is_answer; refuted = refuted; model = model; function_free = function_free }
sure_is problem bounds from (Err e) is_answer refuted model function_free = tt
