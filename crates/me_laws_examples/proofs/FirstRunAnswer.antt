-- The answer to the clauses p and ~p, by the definitions.
use Rattle.std.proofs.Common.{◌≡◌, ℕ, zero, suc, ◌+◌, ◌<◌, ◌≤◌, true, false, not, inl, inr, List, [], ◌∷◌, slice_get, Some, None, refl, sym, subst, ap, arith}
use Rattle.std.proofs.lemmas.Option.{same_Some}
use Rattle.me_terms.specs.Substitutions.{Family}
use Rattle.me_terms.specs.Values.{ClauseValue, EntryValue}
use Rattle.me_terms.specs.Context.{StandsAt, pseudo, IsVisible}
use Rattle.me_terms.specs.Contradictory.{Clash}
use Rattle.me_terms.specs.Positions.{AreOpposite, positions_of, ClauseAt}
use Rattle.me_terms.specs.Unifier.{IsSolvedBy, Solves, IsUnifier, IsContextUnifier}
use Rattle.me_terms.specs.Remainder.{remainder}
use Rattle.me_terms.specs.Close.{IsClose, HasClose}
use Rattle.me_terms.specs.Assert.{IsAssert, MayAssert}
use Rattle.me_terms.specs.Next.{Close, Assert, IsNext}
use Rattle.me_terms.specs.Order.{Precedes, clause_key, pattern_weight, kind_rank, IsLeastAssert}
use Rattle.me_terms.specs.ListedInstances.{IsClosingInstance, IsAskedInstance, constant}
use Rattle.me_terms.specs.LeafList.{Adds, none_waits, adds, IsLeafList}
use Rattle.me_terms.specs.Grown.{start}
use Rattle.me_terms.specs.Outcome.{closes, asserts, Closed}
use Rattle.me_terms.specs.Answer.{HasAnswer, Unsatisfiable}
use Rattle.me_laws.specs.Pairing.{apart}
use Rattle.me_laws_examples.specs.FirstRun.{p, positive_p, negative_p, clause_p, clause_not_p, first_run, usual_bounds, entry_p, after, first_list}
use Rattle.me_terms.specs.declared.bounds.Start.TheVariants.{Negative}
use Rattle.me_terms.specs.declared.entry.Kind.TheVariants.{Universal}
use Rattle.me_terms.specs.declared.atom.Literal.{Literal}
use Rattle.me_terms.specs.declared.atom.Pattern.TheVariants.{Of}
use Rattle.me_laws.proofs.Apart.{apart_general}
use Rattle.me_laws_examples.proofs.Short.{of_start, one_place, only_pseudo, skipped_opposite, skipped_unifier}

-- the only entry of the first context, and the two of the second
of_after : (P : ℕ → EntryValue → Type 0) → P 0 (pseudo false) → P 1 entry_p → (k : ℕ) (e : EntryValue) → StandsAt after k e → P k e
of_after P first second zero e h = subst (P 0) (same_Some (pseudo false) e h) first
of_after P first second (suc zero) e h = subst (P 1) (same_Some entry_p e h) second
of_after P first second (suc (suc k)) e h = cc

-- the two clauses
of_clauses : (P : ℕ → ClauseValue → Type 0) → P 0 clause_p → P 1 clause_not_p → (c : ℕ) (clause : ClauseValue) → ClauseAt first_run c clause → P c clause
of_clauses P first second zero clause h = subst (P 0) (same_Some clause_p clause h) first
of_clauses P first second (suc zero) clause h = subst (P 1) (same_Some clause_not_p clause h) second
of_clauses P first second (suc (suc c)) clause h = cc

-- ---- the first step
nothing_closes : ¬ HasClose first_run (start Negative)
nothing_closes h =
    of_clauses (λ c clause. IsContextUnifier (start Negative) clause.literals None h.1 h.2.family → remainder (start Negative) (positions_of None h.1) h.2.family ≡ [] → ⊥)
    (λ unifier rest. only_pseudo Negative positive_p h.1 h.2.family unifier rest)
    (λ unifier rest. only_pseudo Negative negative_p h.1 h.2.family unifier rest)
    h.0 h.2.clause h.2.clause_at h.2.unifier h.2.no_remainder

allowed_p : MayAssert usual_bounds (start Negative) positive_p Universal
allowed_p = record {
  fits = (omega arith, omega arith);
  consistent = λ h. of_start Negative (λ k e. Clash e.kind e.atom Universal (Of p) → ⊥) (λ g. g) h.0 h.1 h.2.0 h.4;
  not_subsumed = λ h. of_start Negative (λ k e. e.kind ≡ Universal → ⊥) (λ g. cc g) h.0 h.1 h.2.0 h.3;
  no_variant = λ g. cc g;
}

asserts_p : IsAssert first_run usual_bounds (start Negative) 0 0 [] entry_p
asserts_p = record {
  clause = clause_p;
  literal = positive_p;
  family = apart;
  clause_at = refl;
  literal_at = refl;
  unifier = record { opposite = skipped_opposite (start Negative) positive_p; unifier = skipped_unifier (start Negative) positive_p };
  no_remainder = refl;
  entry = refl;
  allowed = allowed_p;
}

smallest : (k w c place : ℕ) (tuple : List ℕ) → 1 ≤ w → Precedes (0 ∷ 1 ∷ 0 ∷ 0 ∷ []) (k ∷ w ∷ c ∷ place ∷ tuple)
smallest (suc k) w c place tuple h = inl (omega arith)
smallest zero zero c place tuple h = absurd (omega arith)
smallest zero (suc (suc w)) c place tuple h = inr (refl, inl (omega arith))
smallest zero (suc zero) (suc c) place tuple h = inr (refl, inr (refl, inl (omega arith)))
smallest zero (suc zero) zero (suc place) tuple h = inr (refl, inr (refl, inr (refl, inl (omega arith))))
smallest zero (suc zero) zero zero tuple h = inr (refl, inr (refl, inr (refl, inr (refl, tt))))

weighs : (e e' : EntryValue) (n : ℕ) → e ≡ e' → pattern_weight e'.atom ≡ 1 + n → 1 ≤ pattern_weight e.atom
weighs e e' n h g = let same = ap (λ (x : EntryValue). pattern_weight x.atom) h in omega (arith, same, g)

least_assert : IsLeastAssert first_run usual_bounds (start Negative) entry_p
least_assert = (0, 0, [], asserts_p, λ c place tuple e h. smallest (kind_rank e.kind) (pattern_weight e.atom) c place tuple (weighs e _ _ h.entry refl))

pub first_step : IsNext first_run usual_bounds (start Negative) (Assert entry_p)
first_step = (nothing_closes, omega arith, least_assert)

-- ---- the second step
entry_visible : IsVisible after 1 entry_p
entry_visible = (refl, λ h. of_after (λ j f. 1 < j → ⊥) (λ lt. absurd (omega arith)) (λ lt. absurd (omega arith)) h.0 h.1 h.2.stands h.2.is_later)

close_visible : (i k : ℕ) (l : Literal) → slice_get (negative_p ∷ []) i ≡ Some l → slice_get (positions_of None (1 ∷ [])) i ≡ Some (Some k) → (e : EntryValue) × IsVisible after k e × (e.positive ≡ not l.positive)
close_visible zero k l at pos =
    let P : ℕ → Type 0 = λ j. (e : EntryValue) × IsVisible after j e × (e.positive ≡ not l.positive) in
    let Q : Literal → Type 0 = λ m. true ≡ not m.positive in
    subst P (same_Some 1 k (same_Some (Some 1) (Some k) pos)) (entry_p, entry_visible, subst Q (same_Some negative_p l at) refl)
close_visible (suc i) k l at pos = cc

close_meets : (i k : ℕ) (l : Literal) (e : EntryValue) → slice_get (negative_p ∷ []) i ≡ Some l → slice_get (positions_of None (1 ∷ [])) i ≡ Some (Some k) → StandsAt after k e → IsSolvedBy (apart (i + 1)) e.atom (apart 0) l.atom
close_meets zero k l e at pos stands =
    let P : ℕ → Type 0 = λ j. StandsAt after j e in
    let there = subst P (sym (same_Some 1 k (same_Some (Some 1) (Some k) pos))) stands in
    let Q : Literal → Type 0 = λ m. IsSolvedBy (apart (0 + 1)) e.atom (apart 0) m.atom in
    let R : EntryValue → Type 0 = λ f. IsSolvedBy (apart (0 + 1)) f.atom (apart 0) p in
    subst Q (same_Some negative_p l at) (subst R (same_Some entry_p e there) refl)
close_meets (suc i) k l e at pos stands = cc

-- clause 0 needs a negative entry, and that is the pseudo-literal
not_by_pseudo : (tuple : List ℕ) (family : Family) → IsContextUnifier after (positive_p ∷ []) None tuple family → remainder after (positions_of None tuple) family ≡ [] → ⊥
not_by_pseudo tuple family h rest =
    let one = one_place after positive_p tuple family h in
    let P : List ℕ → Type 0 = λ t. remainder after (positions_of None t) family ≡ [] in
    of_after (λ k e. e.positive ≡ false → remainder after (positions_of None (k ∷ [])) family ≡ [] → ⊥) (λ good bad. cc bad) (λ good bad. cc good) one.0 one.2.0 one.2.1.0 one.2.2 (subst P one.1 rest)

close_opposite : AreOpposite after (negative_p ∷ []) (positions_of None (1 ∷ []))
close_opposite = record { each_place = refl; visible = close_visible }

close_solves : Solves after (negative_p ∷ []) (positions_of None (1 ∷ [])) apart
close_solves = λ i k l e o. close_meets i k l e o.literal o.position o.stands

close_unifier : IsUnifier after (negative_p ∷ []) (positions_of None (1 ∷ [])) apart
close_unifier = apart_general after (negative_p ∷ []) (positions_of None (1 ∷ [])) close_solves

closes_by_entry : IsClose first_run after 1 (1 ∷ [])
closes_by_entry = record {
  clause = clause_not_p;
  family = apart;
  clause_at = refl;
  unifier = record { opposite = close_opposite; unifier = close_unifier };
  no_remainder = refl;
}

-- a Close needs entry 1 and clause 1
only_close : (c : ℕ) (tuple : List ℕ) → IsClose first_run after c tuple → Precedes (clause_key 1 (1 ∷ [])) (clause_key c tuple)
only_close c tuple h =
    of_clauses (λ d clause. IsContextUnifier after clause.literals None tuple h.family → Precedes (clause_key 1 (1 ∷ [])) (clause_key d tuple))
    (λ unifier. absurd (not_by_pseudo tuple h.family unifier h.no_remainder))
    (λ unifier. let one = one_place after negative_p tuple h.family unifier in
    let P : List ℕ → Type 0 = λ t. Precedes (clause_key 1 (1 ∷ [])) (clause_key 1 t) in
    subst P (sym one.1) (of_after (λ k e. e.positive ≡ true → Precedes (clause_key 1 (1 ∷ [])) (clause_key 1 (k ∷ []))) (λ bad. cc bad) (λ good. inr (refl, inr (refl, tt))) one.0 one.2.0 one.2.1.0 one.2.2))
    c h.clause h.clause_at h.unifier

second_step : IsNext first_run usual_bounds after (Close 1 (1 ∷ []))
second_step = (closes_by_entry, only_close)

-- ---- the list
closing : IsClosingInstance first_run after 1 (1 ∷ []) (negative_p ∷ [])
closing = record { clause = clause_not_p; family = apart; clause_at = refl; unifier = close_unifier; is_instance = refl }

asked : IsAskedInstance first_run after 0 0 [] positive_p (positive_p ∷ [])
asked = record {
  clause = clause_p;
  literal = positive_p;
  family = apart;
  matching = λ x. constant 0;
  clause_at = refl;
  literal_at = refl;
  unifier = skipped_unifier after positive_p;
  matches = refl;
  others = λ x h. refl;
  is_instance = refl;
}

added : Adds first_run after [] ((1, positive_p) ∷ []) (record { clause = 0; literals = positive_p ∷ [] } ∷ [])
added = adds {d = (1, positive_p)} {place = 0} {tuple = []} (λ h. absurd (omega (arith, h.1))) (entry_p, refl, refl) asked none_waits

leaf : IsLeafList first_run after 1 (1 ∷ []) first_list
leaf = (negative_p ∷ [], record { clause = 0; literals = positive_p ∷ [] } ∷ [], closing, added, refl)

pub first_run_refuted : HasAnswer first_run usual_bounds (Unsatisfiable first_list)
first_run_refuted = (Closed first_list, asserts first_step (closes second_step leaf), refl)
