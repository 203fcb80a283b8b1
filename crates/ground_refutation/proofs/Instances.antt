-- The closing instance, and the instance of an asserted entry, of a clause whose literals are at hand.
use Rattle.std.proofs.Common.{◌≡◌, ℕ, ◌<◌, ◌-◌, ◌^◌, List, length, get_or, Option, Some, None, sym, subst, ap, ◌∙◌}
use Rattle.std.proofs.lemmas.Option.{slice_get_within, get_or_from_slice_get}
use Rattle.me_terms.specs.Substitutions.{Family}
use Rattle.me_terms.specs.Values.{ProblemValue, ClauseValue}
use Rattle.me_terms.specs.Context.{Context}
use Rattle.me_terms.specs.Positions.{ClauseAt, positions_of}
use Rattle.me_terms.specs.Validity.{IsValid, IsValidClause}
use Rattle.me_laws.proofs.Lists.{all_at}
use Rattle.me_terms.specs.Unifier.{IsUnifier}
use Rattle.me_terms.specs.Close.{IsClose}
use Rattle.me_terms.specs.ListedInstances.{constant, instance_of, IsClosingInstance, IsAskedInstance}
use Rattle.me_terms.specs.declared.atom.Literal.{Literal}
use Rattle.me_unify.specs.Equations.{Equation, IsSolvable, IsMostGeneral}
use Rattle.me_unify.specs.ClauseEquations.{equations_from}
use Rattle.ground_refutation.specs.AskedEquations.{asked_equations}
use Rattle.ground_refutation.specs.Queue.{IsDemanded}
use Rattle.ground_refutation.proofs.Solving.{is_unifier, is_most_general, is_solvable}
use Rattle.ground_refutation.proofs.AskedInstance as asked

-- ---- the literals
-- a clause of a valid problem has places of their own for its literals
pub few_literals : (problem : ProblemValue) → IsValid problem → (c : ℕ) (ls : List Literal) → ((x : ClauseValue) → ClauseAt problem c x → ls ≡ x.literals) → (x : ClauseValue) → ClauseAt problem c x → length ls < 2 ^ 32 - 1
few_literals problem valid c ls those x at =
    let clause : IsValidClause problem.signature x = all_at (IsValidClause problem.signature) problem.clauses c x valid.clauses at in
    let P : List Literal → Type 0 = λ z. length z < 2 ^ 32 - 1 in
    subst P (sym (those x at)) clause.few_literals

-- ---- the closing instance
module _ (problem : ProblemValue) (context : Context) (c : ℕ) (ks : List (Option ℕ)) (ls : List Literal) (those : (x : ClauseValue) → ClauseAt problem c x → ls ≡ x.literals) where
  abbrev qs : List Equation
  qs = equations_from 0 context ls ks

  module _ (tuple : List ℕ) (are : ks ≡ positions_of None tuple) (close : IsClose problem context c tuple) where
    unifier : IsUnifier context ls ks close.family
    unifier =
        let P : List Literal × List (Option ℕ) → Type 0 = λ z. IsUnifier context z.0 z.1 close.family in
        subst P (λ i. (sym (those close.clause close.clause_at) i, sym are i)) close.unifier.unifier

    pub closing_solvable : IsSolvable qs
    closing_solvable = is_solvable close.family context ls ks unifier

    pub closing_unifier : (u : Family) × IsMostGeneral qs u
    closing_unifier = (close.family, is_most_general close.family context ls ks unifier)

  pub closing_is : (tuple : List ℕ) → ks ≡ positions_of None tuple → (x : ClauseValue) → ClauseAt problem c x → (v : Family) → IsMostGeneral qs v → (literals : List Literal) → literals ≡ instance_of v (λ y. constant problem.c0) ls → IsClosingInstance problem context c tuple literals
  closing_is tuple are x at v most literals is =
      let P : List Literal × List (Option ℕ) → Type 0 = λ z. IsUnifier context z.0 z.1 v in
      record {
        clause = x;
        family = v;
        clause_at = at;
        unifier = subst P (λ i. (those x at i, are i)) (is_unifier v context ls ks most);
        is_instance = is ∙ ap (λ (ms : List Literal). instance_of v (λ y. constant problem.c0) ms) (those x at);
      }

-- ---- the instance of an asserted entry
module _ (problem : ProblemValue) (context : Context) (c place : ℕ) (ks : List (Option ℕ)) (g : Literal) (ls : List Literal) (own : Literal) (literals : List Literal) (h : IsDemanded problem context c place ks g literals) (those : (x : ClauseValue) → ClauseAt problem c x → ls ≡ x.literals) (is : own ≡ get_or ls place own) where
  abbrev q : IsAskedInstance problem context c place h.tuple g literals
  q = h.instance

  same_literals : ls ≡ q.clause.literals
  same_literals = those q.clause q.clause_at

  same_own : own ≡ q.literal
  same_own = is ∙ (ap (λ (ms : List Literal). get_or ms place own) same_literals ∙ get_or_from_slice_get q.clause.literals place q.literal own q.literal_at)

  same_equations : asked_equations context ls ks own g ≡ asked_equations context q.clause.literals (positions_of (Some place) h.tuple) q.literal g
  same_equations = λ i. asked_equations context (same_literals i) (h.positions_are i) (same_own i) g

  pub others_solvable : IsSolvable (equations_from 0 context ls ks)
  others_solvable =
      let P : List Literal × List (Option ℕ) → Type 0 = λ z. IsSolvable (equations_from 0 context z.0 z.1) in
      subst P (λ i. (sym same_literals i, sym h.positions_are i)) (asked.others_solvable problem context c place h.tuple g literals q h.ground)

  pub asked_solvable : IsSolvable (asked_equations context ls ks own g)
  asked_solvable = subst IsSolvable (sym same_equations) (asked.asked_solvable problem context c place h.tuple g literals q h.ground)

  pub asked_is : (v : Family) → IsMostGeneral (asked_equations context ls ks own g) v → instance_of v (λ x. constant problem.c0) ls ≡ literals
  asked_is v most =
      let P : List Equation → Type 0 = λ qs. IsMostGeneral qs v in
      ap (λ (ms : List Literal). instance_of v (λ x. constant problem.c0) ms) same_literals ∙ asked.asked_is problem context c place h.tuple g literals q h.ground v (subst P same_equations most)

pub place_within : (problem : ProblemValue) (context : Context) (c place : ℕ) (ks : List (Option ℕ)) (g : Literal) (ls literals : List Literal) → IsDemanded problem context c place ks g literals → ((x : ClauseValue) → ClauseAt problem c x → ls ≡ x.literals) → place < length ls
place_within problem context c place ks g ls literals h those =
    let P : List Literal → Type 0 = λ ms. place < length ms in
    subst P (sym (those h.instance.clause h.instance.clause_at)) (slice_get_within h.instance.clause.literals place h.instance.literal h.instance.literal_at)
