-- The clause r(f(a),f(a))|q(f(f(a))), searched within one depth after another: what each depth answers, and at which the search stops.
use Rattle.std.proofs.Common.{◌≡◌, ℕ, zero, suc, ◌<◌, ◌≤◌, true, false, inl, inr, List, [], ◌∷◌, slice_get, None, Some, refl, sym, subst, arith}
use Rattle.std.proofs.lemmas.Option.{same_Some}
use Rattle.me_terms.specs.Substitutions.{Family}
use Rattle.me_terms.specs.Measures.{canonical_literal}
use Rattle.me_terms.specs.Answer.{AnswerValue, Satisfiable, GaveUp, HasAnswer}
use Rattle.me_terms.specs.Deepening.{at_depth, HasAnswerFrom}
use Rattle.me_terms.specs.Fits.{Fits}
use Rattle.me_terms.specs.Grown.{start}
use Rattle.me_terms.specs.Next.{IsNext, Exhausted, Bounded}
use Rattle.me_terms.specs.Outcome.{Sat, Met, is_exhausted, is_bounded}
use Rattle.me_terms.specs.Split.{IsSplit}
use Rattle.me_terms.specs.Unifier.{IsContextUnifier, unified}
use Rattle.me_laws.specs.Pairing.{apart}
use Rattle.me_terms.specs.declared.bounds.Bound.TheVariants as bound
use Rattle.me_terms.specs.declared.bounds.Start.{Start}
use Rattle.me_terms.specs.declared.bounds.Start.TheVariants.{Negative, Positive}
use Rattle.me_terms.specs.declared.atom.Literal.{Literal}
use Rattle.me_laws.proofs.Deepened.{deepened_unique}
use Rattle.me_laws_examples.specs.Letters.{literal}
use Rattle.me_laws_examples.specs.BoundByFirstPlace.{either}
use Rattle.me_laws_examples.specs.DeepenedAnswers.{flat_and_heavy, deep_and_light, flat_or_deep, within_depth, DeepenedAnswers}
use Rattle.me_laws_examples.proofs.Short.{of_start}
use Rattle.me_laws_examples.proofs.TwoLiterals.{the_clause, nothing_closes, nothing_asserted, nothing_split, productive, first_remaining}

-- the first literal is too heavy at every depth, and the second too deep below depth 3
unfit : (begins : Start) (depth : ℕ) → depth ≤ 2 → (family : Family) (l : Literal) (place : ℕ) → slice_get (either flat_and_heavy deep_and_light).literals place ≡ Some l → ¬ Fits (within_depth depth begins) (canonical_literal (unified family l))
unfit begins depth le family l zero at h =
    let P : Literal → Type 0 = λ m. Fits (within_depth depth begins) (canonical_literal (unified family m)) in
    let fits = subst P (sym (same_Some (literal true flat_and_heavy) l at)) h in
    let weight = fits.1 in omega (arith, weight)
unfit begins depth le family l (suc zero) at h =
    let P : Literal → Type 0 = λ m. Fits (within_depth depth begins) (canonical_literal (unified family m)) in
    let fits = subst P (sym (same_Some (literal true deep_and_light) l at)) h in
    let deep = fits.0 in omega (arith, deep, le)
unfit begins depth le family l (suc (suc place)) at h = cc at

first_step : IsNext flat_or_deep (within_depth 1 Negative) (start Negative) (Bounded bound.Depth)
first_step = (
  nothing_closes flat_and_heavy deep_and_light,
  (
    nothing_asserted (within_depth 1 Negative) flat_and_heavy deep_and_light (unfit Negative 1 (omega arith)),
    nothing_split (within_depth 1 Negative) flat_and_heavy deep_and_light (unfit Negative 1 (omega arith)),
    (unified apart (literal true flat_and_heavy), first_remaining flat_and_heavy deep_and_light, omega arith),
  ),
)

second_step : IsNext flat_or_deep (within_depth 2 Negative) (start Negative) (Bounded bound.Weight)
second_step = (
  nothing_closes flat_and_heavy deep_and_light,
  (
    nothing_asserted (within_depth 2 Negative) flat_and_heavy deep_and_light (unfit Negative 2 (omega arith)),
    nothing_split (within_depth 2 Negative) flat_and_heavy deep_and_light (unfit Negative 2 (omega arith)),
    (unified apart (literal true flat_and_heavy), first_remaining flat_and_heavy deep_and_light, (omega arith, omega arith)),
  ),
)

splits_deep : IsSplit flat_or_deep (within_depth 3 Negative) (start Negative) 0 1 (0 ∷ 0 ∷ []) 2 (literal true deep_and_light)
splits_deep = record {
  clause = either flat_and_heavy deep_and_light;
  literal = literal true deep_and_light;
  family = apart;
  productive = productive flat_and_heavy deep_and_light;
  literal_at = refl;
  remains = (1, omega arith, refl);
  size_of = refl;
  split_literal = refl;
  fits = (omega arith, omega arith);
}

third_step : IsNext flat_or_deep (within_depth 3 Negative) (start Negative) (Bounded bound.Literals)
third_step = (nothing_closes flat_and_heavy deep_and_light, ((λ h. omega (arith, h)), inr (0, 1, 2, 0 ∷ 0 ∷ [], literal true deep_and_light, splits_deep)))

-- ---- one depth at a time
within_one : HasAnswer flat_or_deep (within_depth 1 Negative) (GaveUp bound.Depth)
within_one = (Met bound.Depth, is_bounded first_step, refl)

within_two : HasAnswer flat_or_deep (within_depth 2 Negative) (GaveUp bound.Weight)
within_two = (Met bound.Weight, is_bounded second_step, refl)

within_three : HasAnswer flat_or_deep (within_depth 3 Negative) (GaveUp bound.Literals)
within_three = (Met bound.Literals, is_bounded third_step, refl)

-- ---- one depth after another
-- of the depths before 2, only depth 1 is searched
before_two : (e : ℕ) → 1 ≤ e → e < 2 → HasAnswer flat_or_deep (at_depth (within_depth 3 Negative) e) (GaveUp bound.Depth)
before_two zero low high = absurd (omega (arith, low))
before_two (suc zero) low high = within_one
before_two (suc (suc e)) low high = absurd (omega (arith, high))

from_one : HasAnswerFrom flat_or_deep (within_depth 3 Negative) 1 (GaveUp bound.Weight)
from_one = (2, record { begun = omega arith; within = omega arith; earlier = before_two; answered = within_two; stops = inl (λ e. cc e) })

from_two : HasAnswerFrom flat_or_deep (within_depth 3 Negative) 2 (GaveUp bound.Weight)
from_two = (2, record { begun = omega arith; within = omega arith; earlier = λ e low high. absurd (omega (arith, low, high)); answered = within_two; stops = inl (λ e. cc e) })

from_three : HasAnswerFrom flat_or_deep (within_depth 3 Negative) 3 (GaveUp bound.Literals)
from_three = (3, record { begun = omega arith; within = omega arith; earlier = λ e low high. absurd (omega (arith, low, high)); answered = within_three; stops = inr refl })

last_met : HasAnswerFrom flat_or_deep (within_depth 1 Negative) 1 (GaveUp bound.Depth)
last_met = (1, record { begun = omega arith; within = omega arith; earlier = λ e low high. absurd (omega (arith, low, high)); answered = within_one; stops = inr refl })

never_from : (from : ℕ) (reply : AnswerValue) → 3 < from → ¬ HasAnswerFrom flat_or_deep (within_depth 3 Negative) from reply
never_from from reply beyond (depth, h) = let begun = h.begun in let within = h.within in omega (arith, beyond, begun, within)

-- ---- from the positive start
-- no entry is against a positive literal
no_tuple : (tuple : List ℕ) (family : Family) → ¬ IsContextUnifier (start Positive) (either flat_and_heavy deep_and_light).literals None tuple family
no_tuple [] family h = let bad : zero ≡ suc (suc zero) = h.opposite.each_place in absurd (omega (arith, bad))
no_tuple (k ∷ tuple) family h =
    let first = h.opposite.visible 0 k (literal true flat_and_heavy) refl refl in
    of_start Positive (λ j e. e.positive ≡ false → ⊥) (λ same. cc same) k first.0 first.1.0 first.2

positive_step : IsNext flat_or_deep (within_depth 1 Positive) (start Positive) Exhausted
positive_step = (
  λ h. the_clause flat_and_heavy deep_and_light (λ c clause. IsContextUnifier (start Positive) clause.literals None h.1 h.2.family → ⊥) (no_tuple h.1 h.2.family) h.0 h.2.clause h.2.clause_at h.2.unifier,
  nothing_asserted (within_depth 1 Positive) flat_and_heavy deep_and_light (unfit Positive 1 (omega arith)),
  λ h. the_clause flat_and_heavy deep_and_light (λ c clause. IsContextUnifier (start Positive) clause.literals None h.1 h.3 → ⊥) (no_tuple h.1 h.3) h.0 h.2 h.4.clause_at h.4.unifier,
)

positive_model : HasAnswer flat_or_deep (within_depth 1 Positive) (Satisfiable (start Positive))
positive_model = (Sat (start Positive), is_exhausted positive_step, refl)

pub deepened_answers : DeepenedAnswers
deepened_answers = record {
  within_one = within_one;
  within_two = within_two;
  within_three = within_three;
  from_one = from_one;
  from_two = from_two;
  from_three = from_three;
  not_the_first = λ h. let same = deepened_unique flat_or_deep (within_depth 3 Negative) 1 (GaveUp bound.Depth) (GaveUp bound.Weight) h from_one in cc same;
  not_the_last = λ h. let same = deepened_unique flat_or_deep (within_depth 3 Negative) 1 (GaveUp bound.Literals) (GaveUp bound.Weight) h from_one in cc same;
  none_before_it_begins = λ h. let same = deepened_unique flat_or_deep (within_depth 3 Negative) 3 (GaveUp bound.Weight) (GaveUp bound.Literals) h from_three in cc same;
  last_met = last_met;
  none_beyond_the_last = λ h. let same = deepened_unique flat_or_deep (within_depth 1 Negative) 1 (GaveUp bound.Weight) (GaveUp bound.Depth) h last_met in cc same;
  none_from_beyond = never_from;
  at_once = (1, record { begun = omega arith; within = omega arith; earlier = λ e low high. absurd (omega (arith, low, high)); answered = positive_model; stops = inl (λ e. cc e) });
}
