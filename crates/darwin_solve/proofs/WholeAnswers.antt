-- The answer of whole records, and of one record alone.
use Rattle.std.proofs.Common.{◌≡◌, [], ◌∷◌, ◌++◌, List, refl, sym, subst, ap, ◌∙◌}
use Rattle.std.specs.Prelude.{Result, Ok, Err, IfOk}
use Rattle.me_terms.specs.Answer.{HasAnswer}
use Rattle.me_terms.specs.Validity.{IsValid}
use Rattle.me_laws_counting.specs.FunctionFree.{IsFunctionFree, IsRoomy}
use Rattle.darwin_solve.specs.Evidence.{HasModel, HasRefutation, IsOverProblem, MeetsOnlyList}
use Rattle.darwin_solve.proofs.Evidences.{has_refutation, has_model, meets_only_list}
use Rattle.darwin_solve.proofs.KnownAnswers.{answer_over}
use Rattle.me_terms.specs.AnswerViews.{answer_value}
use Rattle.me_terms.specs.Values.{ProblemValue}
use Rattle.me_terms.specs.declared.answer.Answer.{Answer}
use Rattle.me_terms.specs.declared.bounds.Bounds.{Bounds}
use Rattle.branch_core.specs.Assemble.{CanAssemble, AnswersWhole}
use Rattle.branch_core.specs.Parts.{RecordValue}
use Rattle.branch_core.specs.Whole.{AreWholeRecords}
use Rattle.branch_core.proofs.CanAssemble.{whole_can}

module _ (problem : ProblemValue) (bounds : Bounds) where
  -- a whole record, pushed to a list without items
  pub pushed_whole : (before items : List RecordValue) (one : RecordValue) → before ≡ [] → items ≡ before ++ one ∷ [] → AreWholeRecords problem bounds (one ∷ []) → AreWholeRecords problem bounds items
  pushed_whole before items one none pushed whole =
      let P : List RecordValue → Type 0 = AreWholeRecords problem bounds in
      subst P (sym (pushed ∙ ap (λ (z : List RecordValue). z ++ one ∷ []) none)) whole

  pub pushed_can : (before items : List RecordValue) (one : RecordValue) → before ≡ [] → items ≡ before ++ one ∷ [] → AreWholeRecords problem bounds (one ∷ []) → CanAssemble items
  pushed_can before items one none pushed whole = whole_can problem bounds items (pushed_whole before items one none pushed whole)

  -- With the answer comes all that is promised of it.
  pub record IsAnswered {E : Type 0} (r : Result Answer E) : Type 0 where
    pub answer : IfOk r (λ answer. HasAnswer problem bounds (answer_value answer))
    pub refuted : IfOk r (λ answer. HasRefutation problem bounds (answer_value answer))
    pub model : IfOk r (λ answer. HasModel problem (answer_value answer))
    pub function_free : IfOk r (λ answer. IsFunctionFree problem → IsRoomy problem bounds → MeetsOnlyList (answer_value answer))
    pub printable : IfOk r (λ answer. IsOverProblem problem (answer_value answer))

  -- whole records give the answer
  pub answered : {E : Type 0} → IsValid problem → (items : List RecordValue) (r : Result Answer E) → AreWholeRecords problem bounds items → IfOk r (λ answer. AnswersWhole items bounds.list (answer_value answer)) → IsAnswered r
  answered valid items (Ok answer) whole h =
      let reply = answer_value answer in
      let is = h problem bounds refl whole in
      record {
        answer = is;
        refuted = has_refutation problem bounds valid reply is;
        model = has_model problem bounds reply is;
        function_free = λ free roomy. meets_only_list problem bounds valid free roomy reply is;
        printable = answer_over problem bounds valid reply is;
      }
  answered valid items (Err e) whole h = record { answer = tt; refuted = tt; model = tt; function_free = tt; printable = tt }
