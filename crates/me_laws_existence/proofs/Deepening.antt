-- A search that deepens stops at some depth, so it has exactly one answer.
use Rattle.std.proofs.Common.{◌≡◌, ℕ, zero, suc, ◌+◌, ◌≤◌, ◌⊎◌, inl, inr, refl, sym, subst, arith}
use Rattle.me_terms.specs.Values.{ProblemValue}
use Rattle.me_terms.specs.Answer.{AnswerValue, Unsatisfiable, Satisfiable, GaveUp, HasAnswer}
use Rattle.me_terms.specs.Deepening.{at_depth, HasAnswerFrom}
use Rattle.me_terms.specs.declared.bounds.Bound.TheVariants as bound
use Rattle.me_terms.specs.declared.bounds.Bounds.{Bounds}
use Rattle.me_laws.proofs.Deepened.{deepened_unique}
use Rattle.me_laws_existence.proofs.Outcomes.{answer}

-- whether an answer gives up for depth is decided
gives_up : (reply : AnswerValue) → (reply ≡ GaveUp bound.Depth) ⊎ (¬ (reply ≡ GaveUp bound.Depth))
gives_up (Unsatisfiable list) = inr (λ e. cc e)
gives_up (Satisfiable context) = inr (λ e. cc e)
gives_up (GaveUp bound.Depth) = inl refl
gives_up (GaveUp bound.Weight) = inr (λ e. cc e)
gives_up (GaveUp bound.Literals) = inr (λ e. cc e)
gives_up (GaveUp bound.List) = inr (λ e. cc e)

-- a depth from the first one on is the first one, or comes after it
first_or_after : (first e : ℕ) → first ≤ e → (e ≡ first) ⊎ (suc first ≤ e)
first_or_after zero zero le = inl refl
first_or_after zero (suc e) le = inr (omega arith)
first_or_after (suc first) zero le = absurd (omega (arith, le))
first_or_after (suc first) (suc e) le =
    elim (first_or_after first e (omega (arith, le))) as (λ _. (suc e ≡ suc first) ⊎ (suc (suc first) ≤ suc e)) [
      | inl same ↦ inl (omega (arith, same))
      | inr after ↦ inr (omega (arith, after))
    ]

module _ (problem : ProblemValue) (bounds : Bounds) where
  abbrev Deepened : ℕ → Type 0
  Deepened from = (reply : AnswerValue) × HasAnswerFrom problem bounds from reply

  -- where the first depth meets its bound, the search goes on with the depth after it
  goes_on : (from : ℕ) → HasAnswer problem (at_depth bounds from) (GaveUp bound.Depth) → Deepened (suc from) → Deepened from
  goes_on from met found =
      let later = found.1.1 in
      let begun = later.begun in (
        found.0,
        (
          found.1.0,
          record {
            begun = omega (arith, begun);
            within = later.within;
            earlier = λ e le lt. elim (first_or_after from e le) as (λ _. HasAnswer problem (at_depth bounds e) (GaveUp bound.Depth)) [
              | inl same ↦ let P : ℕ → Type 0 = λ d. HasAnswer problem (at_depth bounds d) (GaveUp bound.Depth) in subst P (sym same) met
              | inr after ↦ later.earlier e after lt
            ];
            answered = later.answered;
            stops = later.stops;
          },
        ),
      )

  -- the depth at which the search begins is the one at which it stops
  stops_here : (from : ℕ) → from ≤ bounds.depth → (reply : AnswerValue) → HasAnswer problem (at_depth bounds from) reply → ¬ (reply ≡ GaveUp bound.Depth) ⊎ (from ≡ bounds.depth) → HasAnswerFrom problem bounds from reply
  stops_here from le reply h stops = (from, record { begun = omega arith; within = le; earlier = λ e low high. absurd (omega (arith, low, high)); answered = h; stops = stops })

  deepened : (n from : ℕ) → from + n ≡ bounds.depth → Deepened from
  deepened zero from last =
      let here = answer problem (at_depth bounds from) in
      (here.0, stops_here from (omega (arith, last)) here.0 here.1 (inr (omega (arith, last))))
  deepened (suc n) from left =
      let here = answer problem (at_depth bounds from) in
      elim (gives_up here.0) as (λ _. Deepened from) [
        | inl met ↦
            let P : AnswerValue → Type 0 = λ r. HasAnswer problem (at_depth bounds from) r in
            goes_on from (subst P met here.1) (deepened n (suc from) (omega (arith, left)))
        | inr decides ↦ (here.0, stops_here from (omega (arith, left)) here.0 here.1 (inl decides))
      ]

  depths_left : (from depth : ℕ) → from ≤ depth → (n : ℕ) × (from + n ≡ depth)
  depths_left zero depth le = (depth, omega arith)
  depths_left (suc from) zero le = absurd (omega (arith, le))
  depths_left (suc from) (suc depth) le = let rest = depths_left from depth (omega (arith, le)) in let sum = rest.1 in (rest.0, omega (arith, sum))

  pub only_deepened : (from : ℕ) → from ≤ bounds.depth → (reply : AnswerValue) × HasAnswerFrom problem bounds from reply × ((other : AnswerValue) → HasAnswerFrom problem bounds from other → other ≡ reply)
  only_deepened from le =
      let left = depths_left from bounds.depth le in
      let found = deepened left.0 from left.1 in
      (found.0, found.1, λ other h. deepened_unique problem bounds from other found.0 h found.1)

  -- the search that begins at the last depth stops there
  at_last : (reply : AnswerValue) → HasAnswerFrom problem bounds bounds.depth reply → HasAnswer problem bounds reply
  at_last reply (depth, h) =
      let begun = h.begun in
      let within = h.within in
      let same : depth ≡ bounds.depth = omega (arith, begun, within) in
      let P : ℕ → Type 0 = λ d. HasAnswer problem (at_depth bounds d) reply in
      subst P same h.answered

  pub from_last : (reply : AnswerValue) → (HasAnswerFrom problem bounds bounds.depth reply → HasAnswer problem bounds reply) × (HasAnswer problem bounds reply → HasAnswerFrom problem bounds bounds.depth reply)
  from_last reply = (at_last reply, λ h. stops_here bounds.depth (omega arith) reply h (inr refl))
