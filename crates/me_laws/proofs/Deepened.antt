-- A search that deepens stops at one depth, so its answer is determined.
use Rattle.std.proofs.Common.{◌≡◌, ℕ, ◌<◌, ◌⊎◌, inl, inr, sym, subst, arith}
use Rattle.me_terms.specs.Values.{ProblemValue}
use Rattle.me_terms.specs.Answer.{AnswerValue, GaveUp, HasAnswer}
use Rattle.me_terms.specs.Deepening.{at_depth, StopsAt, HasAnswerFrom}
use Rattle.me_terms.specs.declared.bounds.Bound.TheVariants as bound
use Rattle.me_terms.specs.declared.bounds.Bounds.{Bounds}
use Rattle.me_laws.proofs.OutcomeDetermined.{answer_unique}

-- where it stops at one depth, it does not stop at a later one
not_later : (problem : ProblemValue) (bounds : Bounds) (from depth deeper : ℕ) (reply other : AnswerValue) → StopsAt problem bounds from depth reply → StopsAt problem bounds from deeper other → ¬ (depth < deeper)
not_later problem bounds from depth deeper reply other f g less =
    elim f.stops as (λ _. ⊥) [
      | inl decides ↦ decides (answer_unique problem (at_depth bounds depth) reply (GaveUp bound.Depth) f.answered (g.earlier depth f.begun less))
      | inr last ↦ absurd (omega (arith, last, less, g.within))
    ]

same_depth : (problem : ProblemValue) (bounds : Bounds) (from depth other_depth : ℕ) (reply other : AnswerValue) → StopsAt problem bounds from depth reply → StopsAt problem bounds from other_depth other → depth ≡ other_depth
same_depth problem bounds from depth other_depth reply other f g =
    let f_first = not_later problem bounds from depth other_depth reply other f g in
    let g_first = not_later problem bounds from other_depth depth other reply g f in
    omega (arith, f_first, g_first)

pub deepened_unique : (problem : ProblemValue) (bounds : Bounds) (from : ℕ) (reply other : AnswerValue) → HasAnswerFrom problem bounds from reply → HasAnswerFrom problem bounds from other → reply ≡ other
deepened_unique problem bounds from reply other f g =
    let same = same_depth problem bounds from f.0 g.0 reply other f.1 g.1 in
    let P : ℕ → Type 0 = λ d. HasAnswer problem (at_depth bounds d) reply in
    answer_unique problem (at_depth bounds g.0) reply other (subst P same f.1.answered) g.1.answered
