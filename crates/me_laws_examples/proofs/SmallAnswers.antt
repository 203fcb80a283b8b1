-- Problems of at most one clause, and their answers.
use Rattle.std.proofs.Common.{◌≡◌, ℕ, zero, suc, ◌≤◌, true, false, ◌⊎◌, inl, inr, slice_get, List, [], ◌∷◌, None, Some, refl, sym, subst, arith}
use Rattle.std.proofs.lemmas.Option.{same_Some}
use Rattle.me_terms.specs.Terms.{TermValue, Var, App, AtomValue}
use Rattle.me_terms.specs.Variables.{weight, variables_of, first_ones, place_of}
use Rattle.me_terms.specs.Substitutions.{Family, IsStrictlyMoreGeneral, apply_term, apply_atom}
use Rattle.me_terms.specs.Measures.{literal_weight, canonical_literal}
use Rattle.me_terms.specs.Values.{ClauseValue, Asserted}
use Rattle.me_terms.specs.Context.{pseudo, IsVisible}
use Rattle.me_terms.specs.Contradictory.{Clash}
use Rattle.me_terms.specs.Produces.{HasException}
use Rattle.me_terms.specs.Positions.{positions_of, ClauseAt}
use Rattle.me_terms.specs.Unifier.{IsContextUnifier, unified}
use Rattle.me_terms.specs.Remainder.{remainder}
use Rattle.me_terms.specs.Productive.{IsProductiveUnifier, HasProductive}
use Rattle.me_terms.specs.Close.{IsClose, HasClose}
use Rattle.me_terms.specs.Assert.{IsAssert, HasAssert}
use Rattle.me_terms.specs.Order.{Precedes, clause_key}
use Rattle.me_terms.specs.Next.{Close, Exhausted, Bounded, IsNext, IsFirstRemaining}
use Rattle.me_terms.specs.LeafList.{none_waits, IsLeafList}
use Rattle.me_terms.specs.Grown.{start}
use Rattle.me_terms.specs.Outcome.{Closed, Sat, Met, closes, is_exhausted, is_bounded}
use Rattle.me_laws.specs.Pairing.{apart}
use Rattle.me_terms.specs.declared.bounds.Bound.TheVariants as bound
use Rattle.me_terms.specs.declared.bounds.Start.{Start}
use Rattle.me_terms.specs.declared.bounds.Start.TheVariants.{Negative, Positive}
use Rattle.me_terms.specs.declared.entry.Kind.TheVariants.{Universal, Parametric}
use Rattle.me_terms.specs.declared.atom.Literal.{Literal}
use Rattle.me_terms.specs.declared.atom.Pattern.TheVariants.{Any, Of}
use Rattle.me_laws.proofs.Apart.{apart_general}
use Rattle.me_laws.proofs.Generality.{strictly_irreflexive}
use Rattle.me_laws_examples.specs.Letters.{x0, p_of, literal, entry, usual_from}
use Rattle.me_laws_examples.specs.SmallAnswers.{clause_of, no_clauses, empty_clause, p_of_all, light, narrow, SmallAnswers}
use Rattle.me_laws_examples.proofs.Short.{seen, of_start, one_place, only_pseudo, opposite_by, solves_by, productive_by, skipped_opposite, skipped_unifier}

-- ---- no clauses
none_next : (begins : Start) → IsNext no_clauses (usual_from begins) (start begins) Exhausted
none_next begins = (λ h. cc h.2.clause_at, λ h. cc h.4.clause_at, λ h. cc h.4.clause_at)

-- ---- the empty clause
empty_closes : (begins : Start) → IsClose empty_clause (start begins) 0 []
empty_closes begins = record {
  clause = clause_of [];
  family = apart;
  clause_at = refl;
  unifier = record {
    opposite = opposite_by (start begins) [] [] apart refl tt;
    unifier = apart_general (start begins) [] [] (solves_by (start begins) [] [] apart tt);
  };
  no_remainder = refl;
}

first_of_all : (c : ℕ) (tuple : List ℕ) → Precedes (clause_key 0 []) (clause_key c tuple)
first_of_all zero tuple = inr (refl, tt)
first_of_all (suc c) tuple = inl (omega arith)

empty_next : (begins : Start) → IsNext empty_clause (usual_from begins) (start begins) (Close 0 [])
empty_next begins = (empty_closes begins, λ c tuple h. first_of_all c tuple)

empty_list : (begins : Start) → IsLeafList empty_clause (start begins) 0 [] (record { clause = 0; literals = [] } ∷ [])
unfolding empty_closes
empty_list begins = ([], [], record { clause = clause_of []; family = apart; clause_at = refl; unifier = (empty_closes begins).unifier.unifier; is_instance = refl }, none_waits, refl)

-- ---- p(X0)
only_clause : (P : ℕ → ClauseValue → Type 0) → P 0 (clause_of (literal true (p_of x0) ∷ [])) → (c : ℕ) (clause : ClauseValue) → ClauseAt p_of_all c clause → P c clause
only_clause P first zero clause at = subst (P 0) (same_Some (clause_of (literal true (p_of x0) ∷ [])) clause at) first
only_clause P first (suc c) clause at = cc at

nothing_closes : (begins : Start) → ¬ HasClose p_of_all (start begins)
nothing_closes begins h =
    only_clause (λ c clause. IsContextUnifier (start begins) clause.literals None h.1 h.2.family → remainder (start begins) (positions_of None h.1) h.2.family ≡ [] → ⊥)
    (λ unifier rest. only_pseudo begins (literal true (p_of x0)) h.1 h.2.family unifier rest)
    h.0 h.2.clause h.2.clause_at h.2.unifier h.2.no_remainder

weighs : (t : TermValue) → 1 ≤ weight t
weighs (Var x) = omega arith
weighs (App f ts) = omega arith

-- the literal at a place of the clause is p(X0)
only_literal : (P : Literal → Type 0) → P (literal true (p_of x0)) → (place : ℕ) (l : Literal) → slice_get (literal true (p_of x0) ∷ []) place ≡ Some l → P l
only_literal P first zero l at = subst P (same_Some (literal true (p_of x0)) l at) first
only_literal P first (suc place) l at = cc at

-- whatever X0 becomes, p(X0) weighs more than 1
heavy : (c place : ℕ) (clause : ClauseValue) (l : Literal) (family : Family) → ClauseAt p_of_all c clause → slice_get clause.literals place ≡ Some l → ¬ (literal_weight (canonical_literal (unified family l)) ≤ 1)
heavy c place clause l family clause_at at h =
    let P : Literal → Type 0 = λ m. literal_weight (canonical_literal (unified family m)) ≤ 1 → ⊥ in
    only_clause (λ d z. slice_get z.literals place ≡ Some l → ⊥)
    (λ here. only_literal P (λ le. let more = weighs (apply_term (λ x. Var (place_of x (first_ones [] (variables_of (apply_atom (family 0) (p_of x0)).args)))) (family 0 0)) in omega (arith, le, more)) place l here h)
    c clause clause_at at

pseudo_visible : IsVisible (start Negative) 0 (pseudo false)
pseudo_visible = seen (start Negative) 0 (pseudo false) refl ((λ lt u s g. cc u), tt)

unit_free : (a : AtomValue) → ¬ HasException (start Negative) (pseudo false) a
unit_free a ex =
    of_start Negative (λ j f. (f.kind ≡ Universal) ⊎ ((f.kind ≡ Parametric) × IsStrictlyMoreGeneral Any f.atom) → ⊥)
    (λ r. elim r as (λ _. ⊥) [ inl u ↦ cc u | inr w ↦ strictly_irreflexive Any w.1 ])
    ex.0 ex.1 ex.2.0 ex.4

unit_productive : IsProductiveUnifier p_of_all (start Negative) 0 (0 ∷ []) (clause_of (literal true (p_of x0) ∷ [])) apart
unit_productive = record {
  clause_at = refl;
  unifier = record {
    opposite = opposite_by (start Negative) (literal true (p_of x0) ∷ []) (positions_of None (0 ∷ [])) apart refl ((pseudo false, pseudo_visible, refl), tt);
    unifier = apart_general (start Negative) (literal true (p_of x0) ∷ []) (positions_of None (0 ∷ [])) (solves_by (start Negative) (literal true (p_of x0) ∷ []) (positions_of None (0 ∷ [])) apart ((pseudo false, refl, tt), tt));
  };
  productive = productive_by (start Negative) (literal true (p_of x0) ∷ []) (positions_of None (0 ∷ [])) apart ((pseudo false, record { visible = pseudo_visible; same_sign = refl; generalizes = tt; undisputed = inr (λ ex. unit_free (p_of (apart 0 0)) ex) }), tt);
}

first_pair : (c : ℕ) (tuple : List ℕ) (clause : ClauseValue) (family : Family) → IsProductiveUnifier p_of_all (start Negative) c tuple clause family → Precedes (clause_key 0 (0 ∷ [])) (clause_key c tuple)
first_pair c tuple clause family h =
    only_clause (λ d z. IsContextUnifier (start Negative) z.literals None tuple family → Precedes (clause_key 0 (0 ∷ [])) (clause_key d tuple))
    (λ unifier. let one = one_place (start Negative) (literal true (p_of x0)) tuple family unifier in
    let P : List ℕ → Type 0 = λ t. Precedes (clause_key 0 (0 ∷ [])) (clause_key 0 t) in
    subst P (sym one.1) (of_start Negative (λ k e. Precedes (clause_key 0 (0 ∷ [])) (clause_key 0 (k ∷ []))) (inr (refl, inr (refl, tt))) one.0 one.2.0 one.2.1.0))
    c clause h.clause_at h.unifier

first_remaining : IsFirstRemaining p_of_all (start Negative) (unified apart (literal true (p_of x0)))
first_remaining = record {
  c = 0;
  tuple = 0 ∷ [];
  clause = clause_of (literal true (p_of x0) ∷ []);
  family = apart;
  place = 0;
  others = [];
  literal = literal true (p_of x0);
  productive = unit_productive;
  first = first_pair;
  first_place = refl;
  literal_at = refl;
  unified_literal = refl;
}

nothing_asserted : (begins : Start) → ¬ HasAssert p_of_all (light begins) (start begins)
nothing_asserted begins h = let allowed = h.4.allowed.fits in heavy h.0 h.1 h.4.clause h.4.literal h.4.family h.4.clause_at h.4.literal_at allowed.1

weight_next : IsNext p_of_all (light Negative) (start Negative) (Bounded bound.Weight)
weight_next = (
  nothing_closes Negative,
  (
    nothing_asserted Negative,
    λ h. let P : Literal → Type 0 = λ m. literal_weight m ≤ 1 in heavy h.0 h.1 h.5.clause h.5.literal h.5.family h.5.productive.clause_at h.5.literal_at (subst P h.5.split_literal h.5.fits.1),
    (unified apart (literal true (p_of x0)), first_remaining, (omega arith, omega arith)),
  ),
)

asserts_unit : IsAssert p_of_all narrow (start Negative) 0 0 [] (entry true (p_of x0) Universal (Asserted 0 0 []))
asserts_unit = record {
  clause = clause_of (literal true (p_of x0) ∷ []);
  literal = literal true (p_of x0);
  family = apart;
  clause_at = refl;
  literal_at = refl;
  unifier = record { opposite = skipped_opposite (start Negative) (literal true (p_of x0)); unifier = skipped_unifier (start Negative) (literal true (p_of x0)) };
  no_remainder = refl;
  entry = refl;
  allowed = record {
    fits = (omega arith, omega arith);
    consistent = λ h. of_start Negative (λ k e. Clash e.kind e.atom Universal (Of (p_of x0)) → ⊥) (λ g. g) h.0 h.1 h.2.0 h.4;
    not_subsumed = λ h. of_start Negative (λ k e. e.kind ≡ Universal → ⊥) (λ g. cc g) h.0 h.1 h.2.0 h.3;
    no_variant = λ g. cc g;
  };
}

literals_next : IsNext p_of_all narrow (start Negative) (Bounded bound.Literals)
literals_next = (nothing_closes Negative, ((λ h. omega (arith, h)), inl (0, 0, [], entry true (p_of x0) Universal (Asserted 0 0 []), asserts_unit)))

-- the positive start has no entry against p(X0)
nothing_productive : ¬ HasProductive p_of_all (start Positive)
nothing_productive h =
    only_clause (λ c clause. IsContextUnifier (start Positive) clause.literals None h.1 h.3 → ⊥)
    (λ unifier. let one = one_place (start Positive) (literal true (p_of x0)) h.1 h.3 unifier in
    of_start Positive (λ k e. e.positive ≡ false → ⊥) (λ same. cc same) one.0 one.2.0 one.2.1.0 one.2.2)
    h.0 h.2 h.4.clause_at h.4.unifier

pub small_answers : SmallAnswers
small_answers = record {
  no_clauses_satisfiable = λ begins. (Sat (start begins), is_exhausted (none_next begins), refl);
  empty_clause_refuted = λ begins. (Closed (record { clause = 0; literals = [] } ∷ []), closes (empty_next begins) (empty_list begins), refl);
  positive_model = (Sat (start Positive), is_exhausted (nothing_closes Positive, nothing_asserted Positive, nothing_productive), refl);
  weight_met = (Met bound.Weight, is_bounded weight_next, refl);
  literals_met = (Met bound.Literals, is_bounded literals_next, refl);
}
