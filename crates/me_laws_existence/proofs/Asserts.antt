-- Whether clauses assert is decided, and a first Assert is found.
use Rattle.std.proofs.Common.{◌≡◌, ℕ, ◌⊎◌, inl, inr, List, [], slice_get, Option, Some, None, refl, sym, subst, ap, ◌∙◌, arith}
use Rattle.std.proofs.lemmas.Option.{slice_get_within}
use Rattle.me_terms.specs.Substitutions.{Family}
use Rattle.me_terms.specs.Measures.{canonical_literal}
use Rattle.me_terms.specs.Values.{ProblemValue, ClauseValue, EntryValue}
use Rattle.me_terms.specs.Context.{Context}
use Rattle.me_terms.specs.Unifier.{IsContextUnifier, unified}
use Rattle.me_terms.specs.Positions.{positions_of, ClauseAt}
use Rattle.me_terms.specs.Remainder.{remainder}
use Rattle.me_terms.specs.Assert.{asserted_entry, MayAssert, IsAssert, HasAssert}
use Rattle.me_terms.specs.Order.{Precedes, assert_key, IsLeastAssert}
use Rattle.me_terms.specs.declared.bounds.Bounds.{Bounds}
use Rattle.me_terms.specs.declared.atom.Literal.{Literal}
use Rattle.me_laws.proofs.Determined.{remainder_same, clause_same, canonical_unified, unified_same, assert_determined}
use Rattle.me_laws_existence.proofs.Best.{Among, best, precedes_itself}
use Rattle.me_laws_existence.proofs.Codes.{Code}
use Rattle.me_laws_existence.proofs.Opposed.{context_unifier_decided}
use Rattle.me_laws_existence.proofs.Clashes.{may_decided}
use Rattle.me_laws_existence.proofs.Closes.{candidates, among_candidates, moved, turn, empty_decided}

-- the literals at a place under two unifiers of one clause and tuple have one canonical form
pub canonical_turned : (problem : ProblemValue) (context : Context) (c : ℕ) (skip : Option ℕ) (tuple : List ℕ) (place : ℕ) (x y : ClauseValue) (l m : Literal) (u v : Family) → ClauseAt problem c x → ClauseAt problem c y → slice_get x.literals place ≡ Some l → slice_get y.literals place ≡ Some m → IsContextUnifier context x.literals skip tuple u → IsContextUnifier context y.literals skip tuple v → canonical_literal (unified u l) ≡ canonical_literal (unified v m)
canonical_turned problem context c skip tuple place x y l m u v at at' here here' f g =
    let both = unified_same context skip tuple place x y l m u v (clause_same problem c x y at at') here here' f g in
    canonical_unified u v both.0 l ∙ ap (λ n. canonical_literal (unified v n)) both.1

pub literal_moved : (problem : ProblemValue) (c place : ℕ) (x y : ClauseValue) (m : Literal) → ClauseAt problem c x → ClauseAt problem c y → slice_get y.literals place ≡ Some m → slice_get x.literals place ≡ Some m
literal_moved problem c place x y m at at' here =
    let P : ClauseValue → Type 0 = λ z. slice_get z.literals place ≡ Some m in subst P (clause_same problem c y x at' at) here

module _ (problem : ProblemValue) (bounds : Bounds) (context : Context) where
  abbrev Asserting : Code → Type 0
  Asserting a = (e : EntryValue) × IsAssert problem bounds context a.0 a.1 a.2 e

  module _ (c place : ℕ) (tuple : List ℕ) where
    assert_may : (x : ClauseValue) (l : Literal) (u : Family) → ClauseAt problem c x → slice_get x.literals place ≡ Some l → IsContextUnifier context x.literals (Some place) tuple u → remainder context (positions_of (Some place) tuple) u ≡ [] → MayAssert bounds context (canonical_literal (unified u l)) (asserted_entry context c place tuple (canonical_literal (unified u l))).kind ⊎ (¬ MayAssert bounds context (canonical_literal (unified u l)) (asserted_entry context c place tuple (canonical_literal (unified u l))).kind) → Asserting (c, place, tuple) ⊎ (¬ Asserting (c, place, tuple))
    assert_may x l u at here h none (inl may) =
        inl (asserted_entry context c place tuple (canonical_literal (unified u l)), record { clause = x; literal = l; family = u; clause_at = at; literal_at = here; unifier = h; no_remainder = none; entry = refl; allowed = may })
    assert_may x l u at here h none (inr never) =
        inr (λ g.
        let f = g.1 in
        let theirs : Literal = canonical_literal (unified f.family f.literal) in
        let same : canonical_literal (unified u l) ≡ theirs = canonical_turned problem context c (Some place) tuple place x f.clause l f.literal u f.family at f.clause_at here f.literal_at h f.unifier in
        let Q : EntryValue → Type 0 = λ z. MayAssert bounds context theirs z.kind in
        let P : Literal → Type 0 = λ z. MayAssert bounds context z (asserted_entry context c place tuple z).kind in
        never (subst P (sym same) (subst Q f.entry f.allowed)))

    assert_empty : (x : ClauseValue) (l : Literal) (u : Family) → ClauseAt problem c x → slice_get x.literals place ≡ Some l → IsContextUnifier context x.literals (Some place) tuple u → (remainder context (positions_of (Some place) tuple) u ≡ []) ⊎ (¬ (remainder context (positions_of (Some place) tuple) u ≡ [])) → Asserting (c, place, tuple) ⊎ (¬ Asserting (c, place, tuple))
    assert_empty x l u at here h (inl none) = assert_may x l u at here h none (may_decided bounds context (canonical_literal (unified u l)) (asserted_entry context c place tuple (canonical_literal (unified u l))).kind)
    assert_empty x l u at here h (inr some) =
        inr (λ g. let f = g.1 in some (remainder_same context (positions_of (Some place) tuple) u f.family (turn problem context c (Some place) tuple x f.clause u f.family at f.clause_at h f.unifier) ∙ f.no_remainder))

    assert_with : (x : ClauseValue) (l : Literal) → ClauseAt problem c x → slice_get x.literals place ≡ Some l → ((u : Family) × IsContextUnifier context x.literals (Some place) tuple u) ⊎ (¬ ((u : Family) × IsContextUnifier context x.literals (Some place) tuple u)) → Asserting (c, place, tuple) ⊎ (¬ Asserting (c, place, tuple))
    assert_with x l at here (inl h) = assert_empty x l h.0 at here h.1 (empty_decided (remainder context (positions_of (Some place) tuple) h.0))
    assert_with x l at here (inr never) = inr (λ g. let f = g.1 in never (f.family, moved problem context c (Some place) tuple x f.clause f.family at f.clause_at f.unifier))

    assert_at : (x : ClauseValue) (o : Option Literal) → ClauseAt problem c x → slice_get x.literals place ≡ o → Asserting (c, place, tuple) ⊎ (¬ Asserting (c, place, tuple))
    assert_at x None at e = inr (λ g. let f = g.1 in let there = literal_moved problem c place x f.clause f.literal at f.clause_at f.literal_at in cc (e, there))
    assert_at x (Some l) at e = assert_with x l at e (context_unifier_decided context x.literals (Some place) tuple)

    assert_by : (o : Option ClauseValue) → slice_get problem.clauses c ≡ o → Asserting (c, place, tuple) ⊎ (¬ Asserting (c, place, tuple))
    assert_by None e = inr (λ g. let there = g.1.clause_at in cc (e, there))
    assert_by (Some x) e = assert_at x (slice_get x.literals place) e refl

  asserting_among : (a : Code) → Asserting a → Among a (candidates problem context)
  asserting_among a g =
      let f = g.1 in
      let lt = slice_get_within f.clause.literals a.1 f.literal f.literal_at in
      among_candidates problem context a.0 a.1 a.2 f.clause (Some a.1) f.clause_at (omega (arith, lt)) f.unifier.opposite

  asserting_key : (a : Code) → Asserting a → List ℕ
  asserting_key a r = assert_key a.0 a.1 a.2 r.0

  one_key : (a : Code) (r s : Asserting a) → Precedes (asserting_key a r) (asserting_key a s)
  unfolding asserting_key
  one_key a r s =
      let P : EntryValue → Type 0 = λ e. Precedes (assert_key a.0 a.1 a.2 r.0) (assert_key a.0 a.1 a.2 e) in
      subst P (assert_determined problem bounds context a.0 a.1 a.2 r.0 s.0 r.1 s.1) (precedes_itself (assert_key a.0 a.1 a.2 r.0))

  pub least_assert : ((e : EntryValue) × IsLeastAssert problem bounds context e) ⊎ (¬ HasAssert problem bounds context)
  unfolding asserting_key
  least_assert =
      elim (best Code Asserting asserting_key one_key (λ a. assert_by a.0 a.1 a.2 (slice_get problem.clauses a.0) refl) (candidates problem context) asserting_among) as (λ _. ((e : EntryValue) × IsLeastAssert problem bounds context e) ⊎ (¬ HasAssert problem bounds context)) [
        | inl m ↦ inl (m.holds.0, (m.at.0, m.at.1, m.at.2, m.holds.1, λ c place tuple e h. m.least (c, place, tuple) (e, h)))
        | inr none ↦ inr (λ h. none (h.0, h.1, h.2) (h.3, h.4))
      ]
