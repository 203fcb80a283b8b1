-- The keys of productive unifiers, and the step that the first one gives.
use Rattle.std.proofs.Common.{◌≡◌, ℕ, inl, inr, List, [], ◌∷◌, ◌++◌, length, slice_get, Option, Some, None, refl, sym, subst, ap, ◌∙◌, arith}
use Rattle.me_terms.specs.Substitutions.{Family}
use Rattle.me_terms.specs.Measures.{canonical_literal}
use Rattle.me_terms.specs.Values.{ProblemValue, ClauseValue}
use Rattle.me_terms.specs.Context.{Context}
use Rattle.me_terms.specs.Unifier.{unified}
use Rattle.me_terms.specs.Close.{HasClose}
use Rattle.me_terms.specs.Assert.{HasAssert}
use Rattle.me_terms.specs.Productive.{IsProductiveUnifier}
use Rattle.me_terms.specs.Split.{IsSplit, HasSplit, split_kind}
use Rattle.me_terms.specs.Order.{Precedes, clause_key, split_key, IsLeastSplit}
use Rattle.me_terms.specs.Next.{NextValue, IsNext}
use Rattle.me_terms.specs.declared.bounds.Bounds.{Bounds}
use Rattle.me_terms.specs.declared.atom.Literal.{Literal}
use Rattle.me_laws_increments.proofs.FirstUnfit.{remains, least_is_first_remaining}
use Rattle.me_unify.specs.Equations.{IsMostGeneral}
use Rattle.joint_unifiers.specs.ClauseUnifiers.{UnifierValue, IsUnifierOf}
use Rattle.split_rule.specs.declared.choice.SplitChoice.{SplitChoice}
use Rattle.split_rule.specs.SplitChoices.{IsByRule, IsRuleChoice}
use Rattle.next_rule.proofs.NextSteps.{bound_met, full_for_split}
use Rattle.candidate_keys.specs.Keys.{code_by}
use Rattle.candidate_store.specs.Kept.{IsKeyOf}
use Rattle.candidate_store.specs.Firsts.{fit_of, GivesStep, IsBelowAll}

-- ---- lists of numbers that begin alike
same_first : (n : ℕ) (xs ys : List ℕ) → Precedes xs ys → Precedes (n ∷ xs) (n ∷ ys)
same_first n xs ys h = inr (refl, h)

after_first : (n : ℕ) (xs ys : List ℕ) → Precedes (n ∷ xs) (n ∷ ys) → Precedes xs ys
after_first n xs ys (inl less) = absurd (omega arith)
after_first n xs ys (inr h) = h.1

one_not_zero : (xs ys : List ℕ) → ¬ Precedes (1 ∷ xs) (0 ∷ ys)
one_not_zero xs ys h = elim h as (λ _. ⊥) [ inl less ↦ omega (arith, less) | inr same ↦ (let e = same.0 in omega (arith, e)) ]

module _ (problem : ProblemValue) (bounds : Bounds) (context : Context) (c : ℕ) (tuple : List ℕ) (clause : ClauseValue) (f : Family) (productive : IsProductiveUnifier problem context c tuple clause f) (size : ℕ) where
  -- the code of a choice is that of its Split
  code_is : (choice : SplitChoice) (rule : IsRuleChoice problem bounds context c tuple clause f size choice) → code_by (fit_of size (Some choice)) c tuple ≡ 0 ∷ split_key c tuple choice.place size (canonical_literal (unified f rule.literal))
  code_is choice rule = ap (λ z. 0 ∷ size ∷ z ∷ c ∷ tuple ++ choice.place ∷ []) rule.weight

  first_split : (choice : Option SplitChoice) → IsByRule problem bounds context c tuple clause f size choice → (place other : ℕ) (l : Literal) → IsSplit problem bounds context c place tuple other l → Precedes (code_by (fit_of size choice) c tuple) (0 ∷ split_key c tuple place other l)
  first_split None rule place other l split = absurd (rule place other l split)
  first_split (Some choice) rule place other l split =
      let P : List ℕ → Type 0 = λ z. Precedes z (0 ∷ split_key c tuple place other l) in
      subst P (sym (code_is choice rule)) (same_first 0 (split_key c tuple choice.place size (canonical_literal (unified f rule.literal))) (split_key c tuple place other l) (rule.least place other l split))

  pub chosen_key : (choice : Option SplitChoice) → IsByRule problem bounds context c tuple clause f size choice → IsKeyOf problem bounds context c tuple (record { fit = fit_of size choice; clause = c; tuple = tuple })
  chosen_key choice rule = record { of_clause = refl; of_tuple = refl; first = first_split choice rule }

  module _ (no_close : ¬ HasClose problem context) (no_assert : ¬ HasAssert problem bounds context) where
    least_split : (choice : SplitChoice) (rule : IsRuleChoice problem bounds context c tuple clause f size choice) → IsBelowAll problem bounds context (code_by (fit_of size (Some choice)) c tuple) → IsLeastSplit problem bounds context (canonical_literal (unified f rule.literal))
    least_split choice rule below = (
      c,
      choice.place,
      size,
      tuple,
      rule.split,
      λ c2 place2 size2 tuple2 l2 split.
          let key = split_key c tuple choice.place size (canonical_literal (unified f rule.literal)) in
          let P : List ℕ → Type 0 = λ z. Precedes z (0 ∷ split_key c2 tuple2 place2 size2 l2) in
          after_first 0 key (split_key c2 tuple2 place2 size2 l2)
          (subst P (code_is choice rule) ((below c2 tuple2 split.clause split.family split.productive).splits place2 size2 l2 split)),
    )

    no_split : IsBelowAll problem bounds context (1 ∷ c ∷ tuple) → ¬ HasSplit problem bounds context
    no_split below has =
        let split = has.5 in
        one_not_zero (c ∷ tuple) (split_key has.0 has.3 has.1 has.2 has.4) ((below has.0 has.3 split.clause split.family split.productive).splits has.1 has.2 has.4 split)

    module _ (u : UnifierValue) (of : IsUnifierOf context clause.literals None tuple u) (is_size : size ≡ length u.remainder) where
      general : IsMostGeneral u.equations f
      general = let P : List ℕ → Type 0 = λ z. IsMostGeneral u.equations f in (of.families f).1 productive.unifier.unifier

      literal_there : (place : ℕ) (l : Literal) → slice_get clause.literals place ≡ Some l → slice_get u.literals place ≡ Some l
      literal_there place l at = ap (λ z. slice_get z place) of.literals ∙ at

      split_next : (choice : SplitChoice) (next : NextValue) → IsRuleChoice problem bounds context c tuple clause f size choice → IsBelowAll problem bounds context (code_by (fit_of size (Some choice)) c tuple) → GivesStep bounds context u (Some choice) next → IsNext problem bounds context next
      split_next choice next rule below gives =
          let P : NextValue → Type 0 = λ z. IsNext problem bounds context z in
          let least = least_split choice rule below in
          elim gives as (λ _. IsNext problem bounds context next) [
            | inl split ↦
                (let l = split.1.0 in
                let same : l ≡ canonical_literal (unified f rule.literal) = split.1.2 f rule.literal general (literal_there choice.place rule.literal rule.literal_at) in
                let Q : Literal → Type 0 = λ z. IsLeastSplit problem bounds context z in
                subst P (sym split.1.1) (no_close, no_assert, split.0, subst Q (sym same) least, rule.kind ∙ ap split_kind (sym same)))
            | inr full ↦ subst P (sym full.1) (full_for_split problem bounds context (canonical_literal (unified f rule.literal)) no_close full.0 least)
          ]

      bound_next : (next : NextValue) → IsBelowAll problem bounds context (1 ∷ c ∷ tuple) → GivesStep bounds context u None next → IsNext problem bounds context next
      bound_next next below gives =
          let P : NextValue → Type 0 = λ z. IsNext problem bounds context z in
          let first = remains problem context c tuple clause f no_close productive in
          let least = λ (c2 : ℕ) (tuple2 : List ℕ) (clause2 : ClauseValue) (f2 : Family) (h : IsProductiveUnifier problem context c2 tuple2 clause2 f2). after_first 1 (clause_key c tuple) (clause_key c2 tuple2) (below c2 tuple2 clause2 f2 h).unfit in
          let there = least_is_first_remaining problem context c tuple clause f productive least first in
          let beyond = gives.2 f first.place first.others first.literal general (of.remainder f productive.unifier.unifier ∙ first.first_place) (literal_there first.place first.literal first.literal_at) in
          subst P (sym gives.1) (bound_met problem bounds context gives.0 no_close no_assert (no_split below) (unified f first.literal, there, beyond))

      pub found_next : (choice : Option SplitChoice) (next : NextValue) → IsByRule problem bounds context c tuple clause f size choice → IsBelowAll problem bounds context (code_by (fit_of size choice) c tuple) → GivesStep bounds context u choice next → IsNext problem bounds context next
      found_next None next rule below gives = bound_next next below gives
      found_next (Some choice) next rule below gives = split_next choice next rule below gives
