use Rattle.std.proofs.Common.{◌≡◌, ◌-◌, List, length, slice_get, Some, subst, ◌∙◌}
use Rattle.me_terms.specs.Values.{ProblemValue}
use Rattle.me_terms.specs.Context.{Context}
use Rattle.me_terms.specs.Next.{IsNext}
use Rattle.me_terms.specs.AnswerViews.{next_value}
use Rattle.me_terms.specs.declared.bounds.Bounds.{Bounds}
use Rattle.me_terms.specs.declared.answer.Next.{Next}
use Rattle.me_unify.proofs.Forest.{if_ok_map}
use Rattle.candidate_store.specs.Kept.{FrameValue, StandsFor}
use Rattle.candidate_store.proofs.Stored.{stored_next}
use Rattle.candidate_store.proofs.store.Store.next.Goals as goal

pub returns : goal.returns
returns c =
    let some = rw (← c.self.view_is) at c.requires in
    let P : List FrameValue → Type 0 = λ z. slice_get z (length z - 1) ≡ Some c.last_of.result.now in
    let at = subst P c.deref.ensures.value c.last_of.ensures in
    if_ok_map c.step_again.result (λ (copy : Next). next_value copy ≡ next_value c.next.result.now) (λ (copy : Next). (problem : ProblemValue) (bounds : Bounds) (context : Context) → StandsFor problem bounds context c.args.self.now → IsNext problem bounds context (next_value copy))
    (λ copy same problem bounds context given. (let stands = rw (← c.self.view_is) at given in stored_next problem bounds context _ c.last_of.result.now (next_value copy) stands some at (same ∙ c.next.ensures)))
    c.step_again.ensures
