-- The steps of the search for the least Split.
use Rattle.std.proofs.Common.{◌≡◌, ℕ, ◌+◌, ◌<◌, ◌⊎◌, inl, inr, List, [], ◌∷◌, ◌++◌, length, Option, Some, None, refl, sym, subst, ◌∙◌, arith}
use Rattle.std.proofs.lemmas.Option.{same_Some, slice_get_within}
use Rattle.std.proofs.lemmas.Bool.{cases_lt}
use Rattle.me_terms.specs.Measures.{literal_weight}
use Rattle.me_terms.specs.Values.{ProblemValue, ClauseValue}
use Rattle.me_terms.specs.Context.{Context}
use Rattle.me_terms.specs.Positions.{ClauseAt, positions_of, AreOpposite}
use Rattle.me_terms.specs.Split.{split_kind, HasSplit}
use Rattle.me_terms.specs.Order.{Precedes, split_key, IsLeastSplit}
use Rattle.me_terms.specs.declared.bounds.Bounds.{Bounds}
use Rattle.me_laws.proofs.Determined.{clause_same, precedes_antisymmetric}
use Rattle.tuple_search.specs.Enumeration.{IsAtMost, IsLater, HasUnifier, IsNextTuple, IsLastTuple}
use Rattle.next_rule.specs.Best.{Improves}
use Rattle.next_rule.specs.SplitSearches.{SplitAt, split_rank, size_limit, split_limits, SplitRegion, SplitTuple, SplitsPassed, SplitClause, SplitClauses, TakesSplits}
use Rattle.next_rule.specs.declared.split_state.SplitCandidate.{SplitCandidate}
use Rattle.next_rule.proofs.Codes.{tuple_width}
use Rattle.next_rule.proofs.Keys.{same_key, rank_decides, rest_decides, followed}
use Rattle.next_rule.proofs.Sizes.{improves_within}
use Rattle.next_rule.proofs.Updating.{RankDecides, StandsBefore, AreBoth, updates_none, updates_then}
use Rattle.next_rule.proofs.Tuples.{later_decided, not_later, passed_precedes, passed_not, passed_here}

-- ---- parts of the tuples of a clause
-- those that come after one that a cursor stands at, and before another
abbrev SplitsBetween : ℕ → Option (List ℕ) → List ℕ → SplitRegion
SplitsBetween c at next c' tuple' = (c' ≡ c) × IsLater at tuple' × Precedes tuple' next × ¬ (tuple' ≡ next)

-- those that come before one
abbrev SplitsBefore : ℕ → List ℕ → SplitRegion
SplitsBefore c next c' tuple' = (c' ≡ c) × Precedes tuple' next × ¬ (tuple' ≡ next)

-- those that are left to a cursor
abbrev SplitsLeft : ℕ → Option (List ℕ) → SplitRegion
SplitsLeft c at c' tuple' = (c' ≡ c) × IsLater at tuple'

module _ (problem : ProblemValue) (bounds : Bounds) (context : Context) where
  abbrev Candidate : Type 0
  Candidate = SplitAt problem bounds context

  abbrev key : Candidate → List ℕ
  key x = split_key x.clause x.tuple x.place x.size x.literal

  abbrev pub given : Candidate → SplitCandidate
  given x = record { size = x.size; weight = literal_weight x.literal; literal = x.literal; kind = split_kind x.literal }

  abbrev Within : SplitRegion → Candidate → Type 0
  Within region x = region x.clause x.tuple

  decides : RankDecides {C = Candidate} given split_rank key
  decides x y h =
      rank_decides x.size (literal_weight x.literal) y.size (literal_weight y.literal) (x.clause ∷ (x.tuple ++ x.place ∷ [])) (y.clause ∷ (y.tuple ++ y.place ∷ [])) h

  stands : (S T : SplitRegion) → ((x y : Candidate) → Within S x → Within T y → Precedes (x.clause ∷ (x.tuple ++ x.place ∷ [])) (y.clause ∷ (y.tuple ++ y.place ∷ []))) → StandsBefore {C = Candidate} given split_rank key (Within S) (Within T)
  stands S T before x y s t h =
      rest_decides x.size (literal_weight x.literal) y.size (literal_weight y.literal) (x.clause ∷ (x.tuple ++ x.place ∷ [])) (y.clause ∷ (y.tuple ++ y.place ∷ [])) h (before x y s t)

  -- ---- the tuples of a clause
  module _ (c : ℕ) (clause : ClauseValue) (at_clause : ClauseAt problem c clause) where
    pub clause_of : (c' : ℕ) (clause' : ClauseValue) → c' ≡ c → ClauseAt problem c' clause' → clause' ≡ clause
    clause_of c' clause' same at = let P : ℕ → Type 0 = λ z. ClauseAt problem z clause' in clause_same problem c clause' clause (subst P same at) at_clause

    opposite : (x : Candidate) → x.clause ≡ c → AreOpposite context clause.literals (positions_of None x.tuple)
    opposite x same =
        let f = x.holds in
        let Q : ClauseValue → Type 0 = λ z. AreOpposite context z.literals (positions_of None x.tuple) in
        subst Q (clause_of x.clause f.clause same f.productive.clause_at) f.productive.unifier.opposite

    -- what improves on the best candidate so far is no larger
    small_unifier : (best : Option SplitCandidate) (x : Candidate) → x.clause ≡ c → Improves split_rank best (given x) → HasUnifier context clause.literals None (split_limits best) x.tuple
    small_unifier best x same improves =
        let f = x.holds in
        let P : ℕ → Type 0 = λ z. IsAtMost (size_limit best) z in
        let Q : ClauseValue → Type 0 = λ z. HasUnifier context z.literals None (split_limits best) x.tuple in
        subst Q (clause_of x.clause f.clause same f.productive.clause_at) (f.family, f.productive.unifier, record { remains = subst P f.size_of (improves_within best (given x) improves); weighs = tt; pivot = tt })

    in_turn : (x y : Candidate) → x.clause ≡ c → y.clause ≡ c → Precedes x.tuple y.tuple → ¬ (x.tuple ≡ y.tuple) → Precedes (x.clause ∷ (x.tuple ++ x.place ∷ [])) (y.clause ∷ (y.tuple ++ y.place ∷ []))
    in_turn x y a b before apart =
        inr (
          omega (arith, a, b),
          followed x.tuple y.tuple (x.place ∷ []) (y.place ∷ []) (tuple_width context clause.literals None x.tuple (opposite x a) ∙ sym (tuple_width context clause.literals None y.tuple (opposite y b))) before apart,
        )

    -- where a cursor has gone from one tuple to another, those between them have larger remainders
    between : (at : Option (List ℕ)) (next : List ℕ) (best : Option SplitCandidate) → IsNextTuple context clause.literals None (split_limits best) at next → TakesSplits problem bounds context (SplitsBetween c at next) best best
    between at next best is_next =
        inl (refl, λ x s improves. s.3 (precedes_antisymmetric x.tuple next s.2 (is_next.least x.tuple (small_unifier best x s.0 improves) s.1)))

    between_both : (at : Option (List ℕ)) (next : List ℕ) → IsLater at next → AreBoth {C = Candidate} given split_rank key (Within (SplitsPassed c at)) (Within (SplitsBetween c at next)) (Within (SplitsBefore c next))
    between_both at next later = record {
      split = λ x r. elim (later_decided at x.tuple) as (λ _. Within (SplitsPassed c at) x ⊎ Within (SplitsBetween c at next) x) [ inl h ↦ inr (r.0, h, r.1, r.2) | inr p ↦ inl (r.0, p) ];
      left = λ x p. (p.0, passed_precedes at x.tuple next p.1 later, passed_not at x.tuple next p.1 later);
      right = λ x q. (q.0, q.2, q.3);
    }

    next_cases : (next : List ℕ) (x : Candidate) → Within (SplitsPassed c (Some next)) x → Within (SplitsBefore c next) x ⊎ Within (SplitTuple c next) x
    next_cases next x r = elim (same_key x.tuple next) as (λ _. Within (SplitsBefore c next) x ⊎ Within (SplitTuple c next) x) [ inl e ↦ inr (r.0, e) | inr apart ↦ inl (r.0, not_later next x.tuple r.1, apart) ]

    next_both : (next : List ℕ) → AreBoth {C = Candidate} given split_rank key (Within (SplitsBefore c next)) (Within (SplitTuple c next)) (Within (SplitsPassed c (Some next)))
    next_both next = record {
      split = next_cases next;
      left = λ x p. (p.0, λ again. p.2 (precedes_antisymmetric x.tuple next p.1 again.0));
      right = λ x q. (q.0, passed_here next x.tuple q.1);
    }

    before_next : (next : List ℕ) (x y : Candidate) → Within (SplitsBefore c next) x → Within (SplitTuple c next) y → Precedes (x.clause ∷ (x.tuple ++ x.place ∷ [])) (y.clause ∷ (y.tuple ++ y.place ∷ []))
    before_next next x y s t =
        let P : List ℕ → Type 0 = λ z. Precedes x.tuple z in
        in_turn x y s.0 t.0 (subst P (sym t.1) s.1) (λ same. s.2 (same ∙ t.1))

    passed_between : (at : Option (List ℕ)) (x y : Candidate) → x.clause ≡ c → y.clause ≡ c → ¬ IsLater at x.tuple → IsLater at y.tuple → Precedes (x.clause ∷ (x.tuple ++ x.place ∷ [])) (y.clause ∷ (y.tuple ++ y.place ∷ []))
    passed_between at x y a b passed later = in_turn x y a b (passed_precedes at x.tuple y.tuple passed later) (passed_not at x.tuple y.tuple passed later)

    pub split_tuple_step : (at : Option (List ℕ)) (next : List ℕ) (a b d : Option SplitCandidate) → IsNextTuple context clause.literals None (split_limits b) at next → TakesSplits problem bounds context (SplitsPassed c at) a b → TakesSplits problem bounds context (SplitTuple c next) b d → TakesSplits problem bounds context (SplitsPassed c (Some next)) a d
    split_tuple_step at next a b d is_next f g =
        let before : TakesSplits problem bounds context (SplitsBefore c next) a b = updates_then given split_rank key (Within (SplitsPassed c at)) (Within (SplitsBetween c at next)) (Within (SplitsBefore c next)) decides
        (stands (SplitsPassed c at) (SplitsBetween c at next) (λ x y s t. passed_between at x y s.0 t.0 s.1 t.1))
        (between_both at next is_next.later) a b b f (between at next b is_next) in
        updates_then given split_rank key (Within (SplitsBefore c next)) (Within (SplitTuple c next)) (Within (SplitsPassed c (Some next))) decides
        (stands (SplitsBefore c next) (SplitTuple c next) (before_next next)) (next_both next) a b d before g

    -- where no later tuple has a small enough remainder, those left do not improve
    end_both : (at : Option (List ℕ)) → AreBoth {C = Candidate} given split_rank key (Within (SplitsPassed c at)) (Within (SplitsLeft c at)) (Within (SplitClause c))
    end_both at = record {
      split = λ x r. elim (later_decided at x.tuple) as (λ _. Within (SplitsPassed c at) x ⊎ Within (SplitsLeft c at) x) [ inl h ↦ inr (r, h) | inr p ↦ inl (r, p) ];
      left = λ x p. p.0;
      right = λ x q. q.0;
    }

    pub split_tuples_end : (at : Option (List ℕ)) (a b : Option SplitCandidate) → IsLastTuple context clause.literals None (split_limits b) at → TakesSplits problem bounds context (SplitsPassed c at) a b → TakesSplits problem bounds context (SplitClause c) a b
    split_tuples_end at a b last f =
        let rest : TakesSplits problem bounds context (SplitsLeft c at) b b = inl (refl, λ x s improves. last x.tuple (small_unifier b x s.0 improves) s.1) in
        updates_then given split_rank key (Within (SplitsPassed c at)) (Within (SplitsLeft c at)) (Within (SplitClause c)) decides
        (stands (SplitsPassed c at) (SplitsLeft c at) (λ x y s t. passed_between at x y s.0 t.0 s.1 t.1))
        (end_both at) a b b f rest

  pub split_tuples_start : (c : ℕ) (a : Option SplitCandidate) → TakesSplits problem bounds context (SplitsPassed c None) a a
  split_tuples_start c a = updates_none given split_rank key (Within (SplitsPassed c None)) a (λ x p. p.1 tt)

  -- ---- the clauses
  pub split_clauses_start : (a : Option SplitCandidate) → TakesSplits problem bounds context (SplitClauses 0) a a
  split_clauses_start a = updates_none given split_rank key (Within (SplitClauses 0)) a (λ x p. absurd (omega (arith, p)))

  clause_cases : (n p : ℕ) → p < n + 1 → (p < n) ⊎ (p ≡ n)
  clause_cases n p h = elim (cases_lt p n) as (λ _. (p < n) ⊎ (p ≡ n)) [ inl g ↦ inl g | inr g ↦ inr (omega arith) ]

  clause_both : (n : ℕ) → AreBoth {C = Candidate} given split_rank key (Within (SplitClauses n)) (Within (SplitClause n)) (Within (SplitClauses (n + 1)))
  clause_both n = record {
    split = λ x r. clause_cases n x.clause r;
    left = λ x p. omega (arith, p);
    right = λ x q. omega (arith, q);
  }

  clause_after : (n : ℕ) (x y : Candidate) → Within (SplitClauses n) x → Within (SplitClause n) y → Precedes (x.clause ∷ (x.tuple ++ x.place ∷ [])) (y.clause ∷ (y.tuple ++ y.place ∷ []))
  clause_after n x y s t = inl (omega (arith, s, t))

  pub split_clause_step : (n : ℕ) (a b d : Option SplitCandidate) → TakesSplits problem bounds context (SplitClauses n) a b → TakesSplits problem bounds context (SplitClause n) b d → TakesSplits problem bounds context (SplitClauses (n + 1)) a d
  split_clause_step n a b d f g =
      updates_then given split_rank key (Within (SplitClauses n)) (Within (SplitClause n)) (Within (SplitClauses (n + 1))) decides
      (stands (SplitClauses n) (SplitClause n) (clause_after n)) (clause_both n) a b d f g

  -- ---- the whole problem
  pub split_none : TakesSplits problem bounds context (SplitClauses (length problem.clauses)) None None → ¬ HasSplit problem bounds context
  split_none (inl h) has =
      let f = has.4 in
      h.1 (record { clause = has.0; place = has.1; size = has.2; tuple = has.3; literal = has.4; holds = has.5 }) (slice_get_within problem.clauses has.0 has.5.clause has.5.productive.clause_at) tt
  split_none (inr h) has = let e = h.1 in absurd (cc e)

  pub split_some : (e : SplitCandidate) → TakesSplits problem bounds context (SplitClauses (length problem.clauses)) None (Some e) → IsLeastSplit problem bounds context e.literal × (e.kind ≡ split_kind e.literal)
  split_some e (inl h) = let f = h.0 in absurd (cc f)
  split_some e (inr h) =
      let m = h.2 in
      let P : SplitCandidate → Type 0 = λ z. IsLeastSplit problem bounds context z.literal × (z.kind ≡ split_kind z.literal) in
      let same : e ≡ given m.at = same_Some e h.0 h.1 ∙ m.gives in
      subst P (sym same) (
        (
          m.at.clause,
          m.at.place,
          m.at.size,
          m.at.tuple,
          m.at.holds,
          λ c place size tuple l g.
              m.least (record { clause = c; place = place; size = size; tuple = tuple; literal = l; holds = g }) (slice_get_within problem.clauses c g.clause g.productive.clause_at),
        ),
        refl,
      )

  -- nothing was found before where nothing is found after
  pub none_before : (region : SplitRegion) (a b : Option SplitCandidate) → TakesSplits problem bounds context region a b → b ≡ None → a ≡ None
  none_before region a b (inl h) e = sym h.0 ∙ e
  none_before region a b (inr h) e = let f = h.1 in cc (e, f)
