-- The context of a Satisfiable answer is grown and exhausted, and so it is a model.
use Rattle.std.proofs.Common.{◌≡◌, Bool, true, false, cond, nat_le, List, sym, subst}
use Rattle.me_terms.specs.Measures.{list_weight}
use Rattle.me_terms.specs.Values.{ProblemValue, InstanceValue}
use Rattle.me_terms.specs.Context.{Context, IsContext}
use Rattle.me_terms.specs.Contradictory.{IsConsistent}
use Rattle.me_terms.specs.Next.{Exhausted, IsNext}
use Rattle.me_terms.specs.Grown.{IsGrown, started, asserted, went_left, went_right}
use Rattle.me_terms.specs.Outcome.{TreeOutcome, Closed, Sat, Met, both, HasOutcome, closes, is_exhausted, is_bounded, asserts, splits}
use Rattle.me_terms.specs.Answer.{Unsatisfiable, Satisfiable, GaveUp, answer_of, HasAnswer}
use Rattle.me_terms.specs.InducedModel.{IsModel}
use Rattle.me_terms.specs.declared.bounds.Bound.TheVariants as bound
use Rattle.me_terms.specs.declared.bounds.Bounds.{Bounds}
use Rattle.me_laws.proofs.Grown.{grown}
use Rattle.me_laws.proofs.Model.{exhausted_model}

-- what an outcome says of the context that it gives, if it gives one
GivesExhausted : ProblemValue → Bounds → TreeOutcome → Type 0
GivesExhausted problem bounds (Sat context) = IsGrown problem bounds context × IsNext problem bounds context Exhausted
GivesExhausted problem bounds (Closed list) = Unit {0}
GivesExhausted problem bounds (Met b) = Unit {0}

both_give : (problem : ProblemValue) (bounds : Bounds) (left right : TreeOutcome) → GivesExhausted problem bounds left → GivesExhausted problem bounds right → GivesExhausted problem bounds (both left right)
unfolding GivesExhausted
both_give problem bounds (Sat context) right f g = f
both_give problem bounds (Closed list) (Sat context) f g = g
both_give problem bounds (Met b) (Sat context) f g = g
both_give problem bounds (Met b) (Closed list) f g = tt
both_give problem bounds (Met b) (Met c) f g = tt
both_give problem bounds (Closed list) (Met c) f g = tt
both_give problem bounds (Closed list) (Closed more) f g = tt

gives : {problem : ProblemValue} {bounds : Bounds} {context : Context} {outcome : TreeOutcome} → IsGrown problem bounds context → HasOutcome problem bounds context outcome → GivesExhausted problem bounds outcome
unfolding GivesExhausted
gives h (closes next leaf) = tt
gives h (is_exhausted next) = (h, next)
gives h (is_bounded next) = tt
gives h (asserts next later) = gives (asserted h next) later
gives {problem} {bounds} h (splits {left = left} {right = right} next f g e) =
    let P : TreeOutcome → Type 0 = λ o. GivesExhausted problem bounds o in
    subst P (sym e) (both_give problem bounds left right (gives (went_left h next) f) (gives (went_right h next) g))

no_list : (test : Bool) (list : List InstanceValue) (context : Context) → Satisfiable context ≡ cond test (Unsatisfiable list) (GaveUp bound.List) → ⊥
no_list true list context h = cc h
no_list false list context h = cc h

by_outcome : (problem : ProblemValue) (bounds : Bounds) (context : Context) (outcome : TreeOutcome) → GivesExhausted problem bounds outcome → Satisfiable context ≡ answer_of bounds outcome → IsGrown problem bounds context × IsNext problem bounds context Exhausted
unfolding GivesExhausted
by_outcome problem bounds context (Sat other) h e =
    let same : context ≡ other = cc e in
    let P : Context → Type 0 = λ x. IsGrown problem bounds x × IsNext problem bounds x Exhausted in
    subst P (sym same) h
by_outcome problem bounds context (Closed list) h e = absurd (no_list (nat_le (list_weight list) bounds.list) list context e)
by_outcome problem bounds context (Met b) h e = cc e

pub satisfiable_exhausted : (problem : ProblemValue) (bounds : Bounds) (context : Context) → HasAnswer problem bounds (Satisfiable context) → IsGrown problem bounds context × IsNext problem bounds context Exhausted
satisfiable_exhausted problem bounds context reply = by_outcome problem bounds context reply.0 (gives started reply.1) reply.2

pub satisfiable_model : (problem : ProblemValue) (bounds : Bounds) (context : Context) → HasAnswer problem bounds (Satisfiable context) → IsContext context × IsConsistent context × IsModel problem context
satisfiable_model problem bounds context reply =
    let h = satisfiable_exhausted problem bounds context reply in
    let whole = grown h.0 in (whole.0, whole.1, exhausted_model problem bounds context whole.0 h.1)
