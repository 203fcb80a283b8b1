-- A search goes from one depth to the next.
use Rattle.std.proofs.Common.{◌≡◌, ℕ, zero, suc, ◌<◌, ◌≤◌, ◌+◌, ◌⊎◌, inl, inr, refl, sym, subst, ap, arith}
use Rattle.me_terms.specs.Values.{ProblemValue}
use Rattle.me_terms.specs.Answer.{AnswerValue, GaveUp, HasAnswer}
use Rattle.me_terms.specs.Deepening.{at_depth, HasAnswerFrom}
use Rattle.me_terms.specs.declared.bounds.Bound.TheVariants as bound
use Rattle.me_terms.specs.declared.bounds.Bounds.{Bounds}
use Rattle.darwin_solve.specs.Deepened.{ComesTo}

-- ---- numbers
before_or_at : (e d : ℕ) → e ≤ d → (e < d) ⊎ (e ≡ d)
before_or_at zero zero h = inr refl
before_or_at zero (suc d) h = inl (omega arith)
before_or_at (suc e) zero h = absurd (omega (arith, h))
before_or_at (suc e) (suc d) h =
    elim (before_or_at e d (omega (arith, h))) as (λ _. (suc e < suc d) ⊎ (suc e ≡ suc d)) [ inl before ↦ inl (omega (arith, before)) | inr at ↦ inr (ap suc at) ]

-- ---- from one depth to the next
module _ (problem : ProblemValue) (bounds : Bounds) (from : ℕ) where
  pub goes_deeper : (depth : ℕ) → ComesTo problem bounds from depth → HasAnswer problem (at_depth bounds depth) (GaveUp bound.Depth) → depth < bounds.depth → (deeper : ℕ) → deeper ≡ depth + 1 → ComesTo problem bounds from deeper
  goes_deeper depth h met less deeper is =
      let begun = h.begun in
      record {
        begun = omega (arith, begun, is);
        within = omega (arith, less, is);
        earlier = λ e f g.
            elim (before_or_at e depth (omega (arith, g, is))) as (λ _. HasAnswer problem (at_depth bounds e) (GaveUp bound.Depth)) [
              | inl before ↦ h.earlier e f before
              | inr at ↦ let P : ℕ → Type 0 = λ d. HasAnswer problem (at_depth bounds d) (GaveUp bound.Depth) in subst P (sym at) met
            ];
      }

  -- a depth that has no next one is the depth at which the search stops
  pub stops_here : (depth : ℕ) → ComesTo problem bounds from depth → (reply : AnswerValue) → HasAnswer problem (at_depth bounds depth) reply → ((reply ≡ GaveUp bound.Depth) × (depth < bounds.depth) → ⊥) → HasAnswerFrom problem bounds from reply
  stops_here depth h reply answered no_next = (
    depth,
    record {
      begun = h.begun;
      within = h.within;
      earlier = h.earlier;
      answered = answered;
      stops = elim (before_or_at depth bounds.depth h.within) as (λ _. ¬ (reply ≡ GaveUp bound.Depth) ⊎ (depth ≡ bounds.depth)) [ inl before ↦ inl (λ met. no_next (met, before)) | inr at ↦ inr at ];
    },
  )
