-- What comes with an answer, from the laws of refutations, models and function-free problems.
use Rattle.me_terms.specs.Values.{ProblemValue}
use Rattle.me_terms.specs.Validity.{IsValid}
use Rattle.me_terms.specs.Answer.{AnswerValue, Unsatisfiable, Satisfiable, GaveUp, HasAnswer}
use Rattle.me_terms.specs.declared.bounds.Bounds.{Bounds}
use Rattle.me_laws.proofs.SatisfiableModel.{satisfiable_model}
use Rattle.me_laws_refutation.proofs.Answered.{unsatisfiable_refuted}
use Rattle.me_laws_counting.specs.FunctionFree.{IsFunctionFree, IsRoomy}
use Rattle.me_laws_counting.proofs.Decided.{only_list}
use Rattle.darwin_solve.specs.Evidence.{HasModel, HasRefutation, MeetsOnlyList}

module _ (problem : ProblemValue) (bounds : Bounds) where
  pub has_refutation : IsValid problem → (reply : AnswerValue) → HasAnswer problem bounds reply → HasRefutation problem bounds reply
  has_refutation valid (Unsatisfiable list) h = unsatisfiable_refuted problem bounds list valid h
  has_refutation valid (Satisfiable context) h = tt
  has_refutation valid (GaveUp b) h = tt

  pub has_model : (reply : AnswerValue) → HasAnswer problem bounds reply → HasModel problem reply
  has_model (Unsatisfiable list) h = tt
  has_model (Satisfiable context) h = satisfiable_model problem bounds context h
  has_model (GaveUp b) h = tt

  pub meets_only_list : IsValid problem → IsFunctionFree problem → IsRoomy problem bounds → (reply : AnswerValue) → HasAnswer problem bounds reply → MeetsOnlyList reply
  meets_only_list valid free roomy (Unsatisfiable list) h = tt
  meets_only_list valid free roomy (Satisfiable context) h = tt
  meets_only_list valid free roomy (GaveUp b) h = only_list problem bounds valid free roomy b h
