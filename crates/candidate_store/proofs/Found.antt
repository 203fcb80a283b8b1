-- What a productive unifier is found to give.
use Rattle.std.proofs.Common.{◌≡◌, ◌↔◌, Bool, true, false, IsTrue, ℕ, ◌<◌, List, [], length, Option, Some, None, refl, sym, subst, ap, ◌∙◌, arith}
use Rattle.std.specs.Prelude.{IsSome, IfSome}
use Rattle.std.proofs.lemmas.Option.{slice_get_within}
use Rattle.me_terms.specs.Substitutions.{Family}
use Rattle.me_terms.specs.Values.{ProblemValue, ClauseValue}
use Rattle.me_terms.specs.Context.{Context}
use Rattle.me_terms.specs.Positions.{ClauseAt, positions_of}
use Rattle.me_terms.specs.Unifier.{IsUnifier, IsContextUnifier}
use Rattle.me_terms.specs.Close.{HasClose}
use Rattle.me_terms.specs.Assert.{HasAssert}
use Rattle.me_terms.specs.Productive.{IsProductive, IsProductiveUnifier}
use Rattle.me_terms.specs.declared.bounds.Bounds.{Bounds}
use Rattle.me_laws.proofs.Determined.{clause_same}
use Rattle.joint_unifiers.specs.ClauseUnifiers.{UnifierValue, IsUnifierOf}
use Rattle.split_rule.specs.declared.choice.SplitChoice.{SplitChoice}
use Rattle.split_rule.specs.SplitChoices.{IsByRule, FollowsRule}
use Rattle.next_rule.specs.SplitSearches.{IsUnifying}
use Rattle.next_rule.proofs.SplitLooks.{found_unifying}
use Rattle.next_rule.proofs.Answers.{is_so, not_so}
use Rattle.candidate_keys.specs.Keys.{UnifierKeyValue, code_by, unifier_code}
use Rattle.candidate_store.specs.Kept.{IsKeyOf}
use Rattle.candidate_store.specs.Firsts.{fit_of, FoundValue, GivesStep, IsBelowAll, IsFound, IsMet, IsProductiveOf}
use Rattle.candidate_store.proofs.Chosen.{chosen_key, found_next}
use Rattle.candidate_store.proofs.MetKeys.{key_below}

module _ (problem : ProblemValue) (context : Context) (c : ℕ) (tuple : List ℕ) (u : UnifierValue) (p : IsProductiveOf problem context c tuple u) where
  -- what no clause closes leaves a remainder
  pub some_remains : ¬ HasClose problem context → u.remainder ≡ [] → ⊥
  some_remains no_close none =
      no_close (c, tuple, record { clause = p.0; family = p.1; clause_at = p.2.clause_at; unifier = p.2.unifier; no_remainder = sym (p.3.remainder p.1 p.2.unifier.unifier) ∙ none })

  module _ (bounds : Bounds) (choice : Option SplitChoice) (rule : FollowsRule u bounds choice) where
    by_rule : IsByRule problem bounds context c tuple p.0 p.1 (length u.remainder) choice
    by_rule = rule problem context c tuple p.0 p.1 p.3 p.2

    place_of : (chosen : Option SplitChoice) → IsByRule problem bounds context c tuple p.0 p.1 (length u.remainder) chosen → IfSome chosen (λ z. z.place < length u.literals)
    place_of None r = tt
    place_of (Some one) r =
        let lt = slice_get_within p.0.literals one.place r.literal r.literal_at in
        let same = ap length p.3.literals in
        omega (arith, lt, same)

    pub chosen_place : IfSome choice (λ z. z.place < length u.literals)
    chosen_place = place_of choice by_rule

    pub key_of : (key : UnifierKeyValue) → key ≡ record { fit = fit_of (length u.remainder) choice; clause = c; tuple = u.tuple } → IsKeyOf problem bounds context c tuple key
    key_of key is =
        let P : List ℕ → Type 0 = λ z. IsKeyOf problem bounds context c tuple (record { fit = fit_of (length u.remainder) choice; clause = c; tuple = z }) in
        let Q : UnifierKeyValue → Type 0 = λ z. IsKeyOf problem bounds context c tuple z in
        subst Q (sym is) (subst P (sym p.3.tuple) (chosen_key problem bounds context c tuple p.0 p.1 p.2 (length u.remainder) choice by_rule))

    pub found_is : ¬ HasClose problem context → ¬ HasAssert problem bounds context → (found : FoundValue) → found.key ≡ record { fit = fit_of (length u.remainder) choice; clause = c; tuple = u.tuple } → GivesStep bounds context u choice found.step → IsFound problem bounds context found
    found_is no_close no_assert found is gives below =
        let same : unifier_code found.key ≡ code_by (fit_of (length u.remainder) choice) c tuple = ap unifier_code is ∙ ap (λ z. code_by (fit_of (length u.remainder) choice) c z) p.3.tuple in
        let P : List ℕ → Type 0 = λ z. IsBelowAll problem bounds context z in
        found_next problem bounds context c tuple p.0 p.1 p.2 (length u.remainder) no_close no_assert u p.3 refl choice found.step by_rule (subst P same below) gives

    pub found_met : (found : FoundValue) → found.key ≡ record { fit = fit_of (length u.remainder) choice; clause = c; tuple = u.tuple } → IsMet problem bounds context (Some found) c tuple
    found_met found is = (found, refl, key_below problem bounds context c tuple found.key (key_of found.key is))

-- ---- whether the unifier of a clause and a tuple is productive
module _ (problem : ProblemValue) (context : Context) (c : ℕ) (clause : ClauseValue) (tuple : List ℕ) (clause_at : ClauseAt problem c clause) (found : Option UnifierValue) (exact : IsSome found ↔ ((f : Family) × IsContextUnifier context clause.literals None tuple f)) where
  own_unifier : (other : ClauseValue) (f : Family) → IsProductiveUnifier problem context c tuple other f → IsContextUnifier context clause.literals None tuple f
  own_unifier other f h = let P : ClauseValue → Type 0 = λ z. IsContextUnifier context z.literals None tuple f in subst P (clause_same problem c other clause h.clause_at clause_at) h.unifier

  pub not_joint : found ≡ None → (other : ClauseValue) (f : Family) → ¬ IsProductiveUnifier problem context c tuple other f
  not_joint is other f h =
      let some = exact.1 (f, own_unifier other f h) in
      let P : Option UnifierValue → Type 0 = λ z. IsSome z in
      let none = subst P is some in
      cc none

  module _ (u : UnifierValue) (is : found ≡ Some u) (unifier : IfSome found (λ v. IsUnifierOf context clause.literals None tuple v)) where
    pub unifying : IsUnifying context clause u
    unifying = found_unifying context clause tuple found u is exact unifier

    of_tuple : IsUnifierOf context clause.literals None tuple u
    of_tuple = let P : Option UnifierValue → Type 0 = λ z. IfSome z (λ v. IsUnifierOf context clause.literals None tuple v) in subst P is unifier

    module _ (b : Bool) (tells : (f : Family) → IsUnifier context clause.literals (positions_of None u.tuple) f → IsTrue b ↔ IsProductive context clause.literals (positions_of None u.tuple) f) where
      pub not_productive : b ≡ false → (other : ClauseValue) (f : Family) → ¬ IsProductiveUnifier problem context c tuple other f
      not_productive is_false other f h =
          let mine = own_unifier other f h in
          let P : List ℕ → Type 0 = λ z. IsUnifier context clause.literals (positions_of None z) f in
          let Q : List ℕ → Type 0 = λ z. IsProductive context clause.literals (positions_of None z) f in
          let R : ClauseValue → Type 0 = λ z. IsProductive context z.literals (positions_of None tuple) f in
          let same = sym of_tuple.tuple in
          not_so b (IsProductive context clause.literals (positions_of None u.tuple) f) (tells f (subst P same mine.unifier)) is_false
          (subst Q same (subst R (clause_same problem c other clause h.clause_at clause_at) h.productive))

      pub productive_of : b ≡ true → IsProductiveOf problem context c tuple u
      productive_of is_true =
          let productive = is_so b (IsProductive context clause.literals (positions_of None u.tuple) unifying.family) (tells unifying.family unifying.unifier.unifier) is_true in
          let P : List ℕ → Type 0 = λ z. IsProductiveUnifier problem context c z clause unifying.family in
          (clause, unifying.family, subst P of_tuple.tuple (record { clause_at = clause_at; unifier = unifying.unifier; productive = productive }), of_tuple)
