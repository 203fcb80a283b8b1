-- The steps of the search for the least Assert.
use Rattle.std.proofs.Common.{◌≡◌, ℕ, ◌+◌, ◌<◌, ◌≤◌, ◌⊎◌, inl, inr, List, ◌∷◌, length, Option, Some, None, refl, sym, ap, subst, ◌∙◌, arith}
use Rattle.std.specs.Prelude.{IfSome, IfNone}
use Rattle.std.proofs.lemmas.Option.{same_Some, slice_get_within}
use Rattle.std.proofs.lemmas.Bool.{cases_lt}
use Rattle.me_terms.specs.Values.{ProblemValue, ClauseValue, EntryValue}
use Rattle.me_terms.specs.Measures.{capped, literal_weight}
use Rattle.me_terms.specs.Unifier.{unified}
use Rattle.me_terms.specs.Context.{Context}
use Rattle.me_terms.specs.Positions.{ClauseAt}
use Rattle.me_terms.specs.Assert.{IsAssert, HasAssert}
use Rattle.me_terms.specs.Order.{Precedes, kind_rank, pattern_weight, assert_key, IsLeastAssert}
use Rattle.me_terms.specs.declared.bounds.Bounds.{Bounds}
use Rattle.me_terms.specs.declared.entry.Kind.{Kind}
use Rattle.me_terms.specs.declared.entry.Kind.TheVariants.{Universal, Parametric}
use Rattle.me_terms.specs.declared.atom.Literal.{Literal}
use Rattle.me_laws.proofs.Determined.{clause_same, assert_determined, precedes_antisymmetric}
use Rattle.me_laws_existence.proofs.Best.{precedes_itself}
use Rattle.joint_unifiers.proofs.CanonicalMeasures.{canonical_weight}
use Rattle.tuple_search.specs.Enumeration.{IsLater, IsWithinCursorLimits, HasUnifier, IsNextTuple, IsLastTuple}
use Rattle.tuple_search.specs.Cursors.{CursorValue}
use Rattle.assert_rule.specs.AssertOrder as order
use Rattle.assert_rule.specs.AssertedEntries.{Asserts}
use Rattle.next_rule.specs.Best.{Improves}
use Rattle.next_rule.specs.AssertSearches.{AssertCandidate, assert_rank, weight_before, weight_limit, assert_limits, AssertRegion, AssertTuple, AssertsPassed, AssertPlace, AssertPlaces, AssertClause, AssertClauses, TakesAsserts}
use Rattle.next_rule.proofs.Keys.{same_key, rank_decides, rest_decides, before_to, before_from}
use Rattle.next_rule.proofs.Updating.{RankDecides, StandsBefore, AreBoth, updates_same, updates_none, updates_then}
use Rattle.next_rule.proofs.Cursors.{IsCursor, Advances, limited}
use Rattle.next_rule.proofs.Sizes.{none_within}
use Rattle.next_rule.proofs.Tuples.{later_decided, not_later, passed_precedes, passed_not, passed_here}

-- ---- the two forms of the order of ranks are the same
before_best : (e : EntryValue) (best : Option EntryValue) → order.ComesBeforeBest e best → Improves assert_rank best e
before_best e None h = tt
before_best e (Some b) h = before_to (kind_rank e.kind) (pattern_weight e.atom) (kind_rank b.kind) (pattern_weight b.atom) h

best_before : (e : EntryValue) (best : Option EntryValue) → Improves assert_rank best e → order.ComesBeforeBest e best
best_before e None h = tt
best_before e (Some b) h = before_from (kind_rank e.kind) (pattern_weight e.atom) (kind_rank b.kind) (pattern_weight b.atom) h

-- ---- what improves on the best entry so far is light
weight_by : (most weight other : ℕ) (kind best : Kind) → weight ≤ most → (kind_rank kind < kind_rank best) ⊎ ((kind_rank kind ≡ kind_rank best) × (weight < other)) → weight ≤ weight_before most best other
weight_by most weight other kind Universal h (inl before) = absurd (omega (arith, before))
weight_by most weight other kind Universal h (inr before) = let less = before.1 in omega (arith, h, less)
weight_by most weight other kind Parametric h before = h

improves_light : (bounds : Bounds) (best : Option EntryValue) (e : EntryValue) → pattern_weight e.atom ≤ bounds.weight → Improves assert_rank best e → pattern_weight e.atom ≤ weight_limit bounds best
improves_light bounds None e h improves = h
improves_light bounds (Some b) e h improves =
    weight_by bounds.weight (pattern_weight e.atom) (pattern_weight b.atom) e.kind b.kind h (best_before e (Some b) improves)

capped_within : (n most : ℕ) → n ≤ most → capped n ≤ most
capped_within n most h = omega (arith, h)

-- ---- parts of the tuples of a place
-- those that come after one that a cursor stands at, and before another
abbrev AssertsBetween : ℕ → ℕ → Option (List ℕ) → List ℕ → AssertRegion
AssertsBetween c place at next c' place' tuple' =
    (c' ≡ c) × (place' ≡ place) × IsLater at tuple' × Precedes tuple' next × ¬ (tuple' ≡ next)

-- those that come before one
abbrev AssertsBefore : ℕ → ℕ → List ℕ → AssertRegion
AssertsBefore c place next c' place' tuple' =
    (c' ≡ c) × (place' ≡ place) × Precedes tuple' next × ¬ (tuple' ≡ next)

-- those that are left to a cursor
abbrev AssertsLeft : ℕ → ℕ → Option (List ℕ) → AssertRegion
AssertsLeft c place at c' place' tuple' = (c' ≡ c) × (place' ≡ place) × IsLater at tuple'

module _ (problem : ProblemValue) (bounds : Bounds) (context : Context) where
  abbrev Candidate : Type 0
  Candidate = AssertCandidate problem bounds context

  abbrev key : Candidate → List ℕ
  key x = assert_key x.clause x.place x.tuple x.entry

  abbrev entry : Candidate → EntryValue
  entry x = x.entry

  abbrev Within : AssertRegion → Candidate → Type 0
  Within region x = region x.clause x.place x.tuple

  decides : RankDecides {C = Candidate} entry assert_rank key
  decides x y h =
      rank_decides (kind_rank x.entry.kind) (pattern_weight x.entry.atom) (kind_rank y.entry.kind) (pattern_weight y.entry.atom) (x.clause ∷ x.place ∷ x.tuple) (y.clause ∷ y.place ∷ y.tuple) h

  stands_at : (S T : AssertRegion) → ((x y : Candidate) → Within S x → Within T y → Precedes (x.clause ∷ x.place ∷ x.tuple) (y.clause ∷ y.place ∷ y.tuple)) → StandsBefore {C = Candidate} entry assert_rank key (Within S) (Within T)
  stands_at S T before x y s t h =
      rest_decides (kind_rank x.entry.kind) (pattern_weight x.entry.atom) (kind_rank y.entry.kind) (pattern_weight y.entry.atom) (x.clause ∷ x.place ∷ x.tuple) (y.clause ∷ y.place ∷ y.tuple) h (before x y s t)

  stands : (S T : AssertRegion) → ((c p : ℕ) (t : List ℕ) (c' p' : ℕ) (t' : List ℕ) → S c p t → T c' p' t' → Precedes (c ∷ p ∷ t) (c' ∷ p' ∷ t')) → StandsBefore {C = Candidate} entry assert_rank key (Within S) (Within T)
  stands S T before =
      stands_at S T (λ x y s t. before x.clause x.place x.tuple y.clause y.place y.tuple s t)

  -- ---- one tuple
  pub assert_found : (c place : ℕ) (tuple : List ℕ) (best : Option EntryValue) (e : EntryValue) → IsAssert problem bounds context c place tuple e → order.ComesBeforeBest e best → TakesAsserts problem bounds context (AssertTuple c place tuple) best (Some e)
  assert_found c place tuple best e holds before =
      inr (
        e,
        refl,
        record {
          at = record { clause = c; place = place; tuple = tuple; entry = e; holds = holds };
          among = (refl, refl, refl);
          gives = refl;
          least = λ x at.
              let Q : ℕ × ℕ × List ℕ → Type 0 = λ z. IsAssert problem bounds context z.0 z.1 z.2 x.entry in
              let there : IsAssert problem bounds context c place tuple x.entry = subst Q (λ i. (at.0 i, at.1 i, at.2 i)) x.holds in
              let same : e ≡ x.entry = assert_determined problem bounds context c place tuple e x.entry holds there in
              let P : ℕ × ℕ × List ℕ × EntryValue → Type 0 = λ z. Precedes (assert_key c place tuple e) (assert_key z.0 z.1 z.2 z.3) in
              subst P (λ i. (sym at.0 i, sym at.1 i, sym at.2 i, same i)) (precedes_itself (assert_key c place tuple e));
        },
        before_best e best before,
      )

  pub assert_not_found : (c place : ℕ) (tuple : List ℕ) (best : Option EntryValue) → ((e : EntryValue) → IsAssert problem bounds context c place tuple e → order.ComesBeforeBest e best → ⊥) → TakesAsserts problem bounds context (AssertTuple c place tuple) best best
  assert_not_found c place tuple best never =
      inl (
        refl,
        λ x at improves.
            let Q : ℕ × ℕ × List ℕ → Type 0 = λ z. IsAssert problem bounds context z.0 z.1 z.2 x.entry in
            never x.entry (subst Q (λ i. (at.0 i, at.1 i, at.2 i)) x.holds) (best_before x.entry best improves),
      )

  -- ---- what the rule answers
  pub assert_answered : (c place : ℕ) (clause : ClauseValue) (tuple : List ℕ) (limit best found : Option EntryValue) (better : EntryValue) → ClauseAt problem c clause → limit ≡ best → found ≡ Some better → IfSome found (Asserts bounds context clause c place tuple) → IfSome found (λ e. order.ComesBeforeBest e limit) → TakesAsserts problem bounds context (AssertTuple c place tuple) best (Some better)
  assert_answered c place clause tuple limit best found better at_clause same is holds before =
      let P : Option EntryValue → Type 0 = λ z. IfSome z (Asserts bounds context clause c place tuple) in
      let Q : Option EntryValue × Option EntryValue → Type 0 = λ z. IfSome z.0 (λ e. order.ComesBeforeBest e z.1) in
      assert_found c place tuple best better (subst P is holds problem at_clause) (subst Q (λ i. (is i, same i)) before)

  pub assert_unanswered : (c place : ℕ) (clause : ClauseValue) (tuple : List ℕ) (limit best found : Option EntryValue) → ClauseAt problem c clause → limit ≡ best → found ≡ None → IfNone found ((p : ProblemValue) (e : EntryValue) → ClauseAt p c clause → IsAssert p bounds context c place tuple e → ¬ order.ComesBeforeBest e limit) → TakesAsserts problem bounds context (AssertTuple c place tuple) best best
  assert_unanswered c place clause tuple limit best found at_clause same is never =
      let P : Option EntryValue × Option EntryValue → Type 0 = λ z. IfNone z.0 ((p : ProblemValue) (e : EntryValue) → ClauseAt p c clause → IsAssert p bounds context c place tuple e → ¬ order.ComesBeforeBest e z.1) in
      let none = subst P (λ i. (is i, same i)) never in
      assert_not_found c place tuple best (λ e holds before. none problem e at_clause holds before)

  -- ---- what may come before the best entry so far is light
  asserted_weight : (c place : ℕ) (tuple : List ℕ) (e : EntryValue) (h : IsAssert problem bounds context c place tuple e) → pattern_weight e.atom ≡ literal_weight (unified h.family h.literal)
  asserted_weight c place tuple e h = ap (λ (z : EntryValue). pattern_weight z.atom) h.entry ∙ canonical_weight (unified h.family h.literal)

  asserted_within : (c place : ℕ) (tuple : List ℕ) (e : EntryValue) → IsAssert problem bounds context c place tuple e → pattern_weight e.atom ≤ bounds.weight
  asserted_within c place tuple e h =
      let P : EntryValue → Type 0 = λ z. pattern_weight z.atom ≤ bounds.weight in
      subst P (sym h.entry) h.allowed.fits.1

  light_family : (best : Option EntryValue) (c place : ℕ) (tuple : List ℕ) (e : EntryValue) (h : IsAssert problem bounds context c place tuple e) → Improves assert_rank best e → IsWithinCursorLimits (assert_limits bounds best) context h.clause.literals (Some place) tuple h.family
  light_family best c place tuple e h improves = record {
    remains = none_within h.no_remainder;
    pivot = tt;
    weighs = λ l at.
        let light = improves_light bounds best e (asserted_within c place tuple e h) improves in
        let P : ℕ → Type 0 = λ z. z ≤ weight_limit bounds best in
        let Q : Literal → Type 0 = λ z. capped (literal_weight (unified h.family z)) ≤ weight_limit bounds best in
        subst Q (same_Some h.literal l (sym h.literal_at ∙ at)) (capped_within (literal_weight (unified h.family h.literal)) (weight_limit bounds best) (subst P (asserted_weight c place tuple e h) light));
  }

  -- ---- the tuples of a place
  module _ (c place : ℕ) (clause : ClauseValue) (at_clause : ClauseAt problem c clause) where
    light_unifier : (best : Option EntryValue) (x : Candidate) → x.clause ≡ c → x.place ≡ place → Improves assert_rank best x.entry → HasUnifier context clause.literals (Some place) (assert_limits bounds best) x.tuple
    light_unifier best x same here improves =
        let f = x.holds in
        let P : ℕ → Type 0 = λ z. ClauseAt problem z f.clause in
        let Q : ClauseValue × ℕ → Type 0 = λ z. HasUnifier context z.0.literals (Some z.1) (assert_limits bounds best) x.tuple in
        subst Q (λ i. (clause_same problem c f.clause clause (subst P same f.clause_at) at_clause i, here i))
        (f.family, f.unifier, light_family best x.clause x.place x.tuple x.entry f improves)

    in_turn : (x y : Candidate) → x.clause ≡ c → x.place ≡ place → y.clause ≡ c → y.place ≡ place → Precedes x.tuple y.tuple → Precedes (x.clause ∷ x.place ∷ x.tuple) (y.clause ∷ y.place ∷ y.tuple)
    in_turn x y a b d e before = inr (omega (arith, a, d), inr (omega (arith, b, e), before))

    -- where a cursor has gone from one tuple to another, what those between them assert is too heavy
    between : (at : Option (List ℕ)) (next : List ℕ) (best : Option EntryValue) → IsNextTuple context clause.literals (Some place) (assert_limits bounds best) at next → TakesAsserts problem bounds context (AssertsBetween c place at next) best best
    between at next best is_next =
        inl (refl, λ x s improves. s.4 (precedes_antisymmetric x.tuple next s.3 (is_next.least x.tuple (light_unifier best x s.0 s.1 improves) s.2)))

    between_both : (at : Option (List ℕ)) (next : List ℕ) → IsLater at next → AreBoth {C = Candidate} entry assert_rank key (Within (AssertsPassed c place at)) (Within (AssertsBetween c place at next)) (Within (AssertsBefore c place next))
    between_both at next later = record {
      split = λ x r. elim (later_decided at x.tuple) as (λ _. Within (AssertsPassed c place at) x ⊎ Within (AssertsBetween c place at next) x) [ inl h ↦ inr (r.0, r.1, h, r.2, r.3) | inr p ↦ inl (r.0, r.1, p) ];
      left = λ x p. (p.0, p.1, passed_precedes at x.tuple next p.2 later, passed_not at x.tuple next p.2 later);
      right = λ x q. (q.0, q.1, q.3, q.4);
    }

    next_cases : (next : List ℕ) (x : Candidate) → Within (AssertsPassed c place (Some next)) x → Within (AssertsBefore c place next) x ⊎ Within (AssertTuple c place next) x
    next_cases next x r =
        elim (same_key x.tuple next) as (λ _. Within (AssertsBefore c place next) x ⊎ Within (AssertTuple c place next) x) [ inl e ↦ inr (r.0, r.1, e) | inr apart ↦ inl (r.0, r.1, not_later next x.tuple r.2, apart) ]

    next_both : (next : List ℕ) → AreBoth {C = Candidate} entry assert_rank key (Within (AssertsBefore c place next)) (Within (AssertTuple c place next)) (Within (AssertsPassed c place (Some next)))
    next_both next = record {
      split = next_cases next;
      left = λ x p. (p.0, p.1, λ again. p.3 (precedes_antisymmetric x.tuple next p.2 again.0));
      right = λ x q. (q.0, q.1, passed_here next x.tuple q.2);
    }

    before_next : (next : List ℕ) (x y : Candidate) → Within (AssertsBefore c place next) x → Within (AssertTuple c place next) y → Precedes (x.clause ∷ x.place ∷ x.tuple) (y.clause ∷ y.place ∷ y.tuple)
    before_next next x y s t =
        let P : List ℕ → Type 0 = λ z. Precedes x.tuple z in
        in_turn x y s.0 s.1 t.0 t.1 (subst P (sym t.2) s.2)

    pub assert_tuple_step : (at : Option (List ℕ)) (next : List ℕ) (a b d : Option EntryValue) → IsNextTuple context clause.literals (Some place) (assert_limits bounds b) at next → TakesAsserts problem bounds context (AssertsPassed c place at) a b → TakesAsserts problem bounds context (AssertTuple c place next) b d → TakesAsserts problem bounds context (AssertsPassed c place (Some next)) a d
    assert_tuple_step at next a b d is_next f g =
        let before : TakesAsserts problem bounds context (AssertsBefore c place next) a b = updates_then entry assert_rank key (Within (AssertsPassed c place at)) (Within (AssertsBetween c place at next)) (Within (AssertsBefore c place next)) decides
        (stands_at (AssertsPassed c place at) (AssertsBetween c place at next) (λ x y s t. in_turn x y s.0 s.1 t.0 t.1 (passed_precedes at x.tuple y.tuple s.2 t.2)))
        (between_both at next is_next.later) a b b f (between at next b is_next) in
        updates_then entry assert_rank key (Within (AssertsBefore c place next)) (Within (AssertTuple c place next)) (Within (AssertsPassed c place (Some next))) decides
        (stands_at (AssertsBefore c place next) (AssertTuple c place next) (before_next next)) (next_both next) a b d before g

    -- where no later tuple is light enough, those left do not improve
    end_both : (at : Option (List ℕ)) → AreBoth {C = Candidate} entry assert_rank key (Within (AssertsPassed c place at)) (Within (AssertsLeft c place at)) (Within (AssertPlace c place))
    end_both at = record {
      split = λ x r. elim (later_decided at x.tuple) as (λ _. Within (AssertsPassed c place at) x ⊎ Within (AssertsLeft c place at) x) [ inl h ↦ inr (r.0, r.1, h) | inr p ↦ inl (r.0, r.1, p) ];
      left = λ x p. (p.0, p.1);
      right = λ x q. (q.0, q.1);
    }

    pub assert_tuples_end : (at : Option (List ℕ)) (a b : Option EntryValue) → IsLastTuple context clause.literals (Some place) (assert_limits bounds b) at → TakesAsserts problem bounds context (AssertsPassed c place at) a b → TakesAsserts problem bounds context (AssertPlace c place) a b
    assert_tuples_end at a b last f =
        let rest : TakesAsserts problem bounds context (AssertsLeft c place at) b b = inl (refl, λ x s improves. last x.tuple (light_unifier b x s.0 s.1 improves) s.2) in
        updates_then entry assert_rank key (Within (AssertsPassed c place at)) (Within (AssertsLeft c place at)) (Within (AssertPlace c place)) decides
        (stands_at (AssertsPassed c place at) (AssertsLeft c place at) (λ x y s t. in_turn x y s.0 s.1 t.0 t.1 (passed_precedes at x.tuple y.tuple s.2 t.2)))
        (end_both at) a b b f rest

  -- ---- the loop over the tuples of a place
  -- After a look at the tuples that the cursor has passed.
  pub record AssertsSoFar (c place : ℕ) (clause : ClauseValue) (cursor : CursorValue) (best better : Option EntryValue) : Type 0 where
    pub over : IsCursor context clause.literals (Some place) (assert_limits bounds better) cursor
    pub takes : TakesAsserts problem bounds context (AssertsPassed c place cursor.at) best better

  pub asserts_so_far : (c place : ℕ) (clause : ClauseValue) (old moved new : CursorValue) (items : List ℕ) (a b d : Option EntryValue) → ClauseAt problem c clause → AssertsSoFar c place clause old a b → Advances context clause.literals (Some place) (assert_limits bounds b) old moved → moved.at ≡ Some items → TakesAsserts problem bounds context (AssertTuple c place items) b d → new ≡ record moved { limits = assert_limits bounds d } → AssertsSoFar c place clause new a d
  asserts_so_far c place clause old moved new items a b d at_clause so_far moves shown takes e =
      let P : List ℕ → Type 0 = λ z. TakesAsserts problem bounds context (AssertTuple c place z) b d in
      let Q : Option (List ℕ) → Type 0 = λ z. TakesAsserts problem bounds context (AssertsPassed c place z) a d in
      let still : new.at ≡ moved.at = ap (λ (z : CursorValue). z.at) e in
      record {
        over = limited context clause.literals (Some place) (assert_limits bounds b) moved new (assert_limits bounds d) moves.over e;
        takes = subst Q (sym (still ∙ moves.stands)) (assert_tuple_step c place clause at_clause old.at moves.tuple a b d moves.is_next so_far.takes (subst P (same_Some items moves.tuple (sym shown ∙ moves.stands)) takes));
      }

  pub asserts_all : (c place : ℕ) (clause : ClauseValue) (cursor : CursorValue) (a b : Option EntryValue) → ClauseAt problem c clause → AssertsSoFar c place clause cursor a b → IsLastTuple context clause.literals (Some place) (assert_limits bounds b) cursor.at → TakesAsserts problem bounds context (AssertPlace c place) a b
  asserts_all c place clause cursor a b at_clause so_far last = assert_tuples_end c place clause at_clause cursor.at a b last so_far.takes

  pub asserts_begin : (c place : ℕ) (clause : ClauseValue) (cursor : CursorValue) (a : Option EntryValue) → IsCursor context clause.literals (Some place) (assert_limits bounds a) cursor → cursor.at ≡ None → AssertsSoFar c place clause cursor a a
  asserts_begin c place clause cursor a over e =
      let Q : Option (List ℕ) → Type 0 = λ z. TakesAsserts problem bounds context (AssertsPassed c place z) a a in
      record { over = over; takes = subst Q (sym e) (updates_none entry assert_rank key (Within (AssertsPassed c place None)) a (λ x p. p.2 tt)) }

  -- ---- the places of a clause
  pub assert_places_start : (c : ℕ) (a : Option EntryValue) → TakesAsserts problem bounds context (AssertPlaces c 0) a a
  assert_places_start c a = updates_none entry assert_rank key (Within (AssertPlaces c 0)) a (λ x p. let lt = p.1 in absurd (omega (arith, lt)))

  place_cases : (n p : ℕ) → p < n + 1 → (p < n) ⊎ (p ≡ n)
  place_cases n p h = elim (cases_lt p n) as (λ _. (p < n) ⊎ (p ≡ n)) [ inl g ↦ inl g | inr g ↦ inr (omega arith) ]

  place_both : (c n : ℕ) → AreBoth {C = Candidate} entry assert_rank key (Within (AssertPlaces c n)) (Within (AssertPlace c n)) (Within (AssertPlaces c (n + 1)))
  place_both c n = record {
    split = λ x r. elim (place_cases n x.place r.1) as (λ _. Within (AssertPlaces c n) x ⊎ Within (AssertPlace c n) x) [ inl p ↦ inl (r.0, p) | inr e ↦ inr (r.0, e) ];
    left = λ x p. let lt = p.1 in (p.0, omega (arith, lt));
    right = λ x q. let e = q.1 in (q.0, omega (arith, e));
  }

  place_after : (c n : ℕ) (c1 p1 : ℕ) (t1 : List ℕ) (c2 p2 : ℕ) (t2 : List ℕ) → AssertPlaces c n c1 p1 t1 → AssertPlace c n c2 p2 t2 → Precedes (c1 ∷ p1 ∷ t1) (c2 ∷ p2 ∷ t2)
  place_after c n c1 p1 t1 c2 p2 t2 s t = let a = s.0 in let b = t.0 in let d = s.1 in let f = t.1 in inr (omega (arith, a, b), inl (omega (arith, d, f)))

  pub assert_place_step : (c n : ℕ) (a b d : Option EntryValue) → TakesAsserts problem bounds context (AssertPlaces c n) a b → TakesAsserts problem bounds context (AssertPlace c n) b d → TakesAsserts problem bounds context (AssertPlaces c (n + 1)) a d
  assert_place_step c n a b d f g =
      updates_then entry assert_rank key (Within (AssertPlaces c n)) (Within (AssertPlace c n)) (Within (AssertPlaces c (n + 1))) decides
      (stands (AssertPlaces c n) (AssertPlace c n) (place_after c n)) (place_both c n) a b d f g

  pub assert_places_end : (c : ℕ) (clause : ClauseValue) (a b : Option EntryValue) → ClauseAt problem c clause → TakesAsserts problem bounds context (AssertPlaces c (length clause.literals)) a b → TakesAsserts problem bounds context (AssertClause c) a b
  assert_places_end c clause a b at_clause h =
      updates_same entry assert_rank key (Within (AssertPlaces c (length clause.literals))) (Within (AssertClause c)) a b
      (λ x r. let f = x.holds in
      let P : ℕ → Type 0 = λ z. ClauseAt problem z f.clause in
      let Q : ClauseValue → Type 0 = λ z. x.place < length z.literals in
      (r, subst Q (clause_same problem c f.clause clause (subst P r f.clause_at) at_clause) (slice_get_within f.clause.literals x.place f.literal f.literal_at)))
      (λ x p. p.0) h

  -- ---- the clauses
  pub assert_clauses_start : (a : Option EntryValue) → TakesAsserts problem bounds context (AssertClauses 0) a a
  assert_clauses_start a = updates_none entry assert_rank key (Within (AssertClauses 0)) a (λ x p. absurd (omega (arith, p)))

  clause_both : (n : ℕ) → AreBoth {C = Candidate} entry assert_rank key (Within (AssertClauses n)) (Within (AssertClause n)) (Within (AssertClauses (n + 1)))
  clause_both n = record {
    split = λ x r. place_cases n x.clause r;
    left = λ x p. omega (arith, p);
    right = λ x q. omega (arith, q);
  }

  clause_after : (n : ℕ) (c1 p1 : ℕ) (t1 : List ℕ) (c2 p2 : ℕ) (t2 : List ℕ) → AssertClauses n c1 p1 t1 → AssertClause n c2 p2 t2 → Precedes (c1 ∷ p1 ∷ t1) (c2 ∷ p2 ∷ t2)
  clause_after n c1 p1 t1 c2 p2 t2 s t = inl (omega (arith, s, t))

  pub assert_clause_step : (n : ℕ) (a b d : Option EntryValue) → TakesAsserts problem bounds context (AssertClauses n) a b → TakesAsserts problem bounds context (AssertClause n) b d → TakesAsserts problem bounds context (AssertClauses (n + 1)) a d
  assert_clause_step n a b d f g =
      updates_then entry assert_rank key (Within (AssertClauses n)) (Within (AssertClause n)) (Within (AssertClauses (n + 1))) decides
      (stands (AssertClauses n) (AssertClause n) (clause_after n)) (clause_both n) a b d f g

  -- ---- the whole problem
  pub assert_none : TakesAsserts problem bounds context (AssertClauses (length problem.clauses)) None None → ¬ HasAssert problem bounds context
  assert_none (inl h) has =
      h.1 (record { clause = has.0; place = has.1; tuple = has.2; entry = has.3; holds = has.4 }) (slice_get_within problem.clauses has.0 has.4.clause has.4.clause_at) tt
  assert_none (inr h) has = let e = h.1 in absurd (cc e)

  pub assert_some : (e : EntryValue) → TakesAsserts problem bounds context (AssertClauses (length problem.clauses)) None (Some e) → IsLeastAssert problem bounds context e
  assert_some e (inl h) = let f = h.0 in absurd (cc f)
  assert_some e (inr h) =
      let m = h.2 in
      let P : EntryValue → Type 0 = λ z. IsLeastAssert problem bounds context z in
      let same : e ≡ m.at.entry = same_Some e h.0 h.1 ∙ m.gives in
      subst P (sym same) (
        m.at.clause,
        m.at.place,
        m.at.tuple,
        m.at.holds,
        λ c place tuple f g.
            m.least (record { clause = c; place = place; tuple = tuple; entry = f; holds = g }) (slice_get_within problem.clauses c g.clause g.clause_at),
      )
