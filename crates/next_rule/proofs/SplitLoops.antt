-- The loops of the search for the least Split: what was learned of one part after another.
use Rattle.std.proofs.Common.{◌≡◌, ℕ, ◌+◌, ◌<◌, ◌⊎◌, inl, inr, List, length, Option, Some, None, sym, ap, subst, ◌∙◌, arith}
use Rattle.std.proofs.lemmas.Option.{same_Some, slice_get_within}
use Rattle.std.proofs.lemmas.Bool.{cases_lt}
use Rattle.me_terms.specs.Substitutions.{Family}
use Rattle.me_terms.specs.Values.{ProblemValue, ClauseValue}
use Rattle.me_terms.specs.Context.{Context}
use Rattle.me_terms.specs.Positions.{ClauseAt}
use Rattle.me_terms.specs.Productive.{IsProductiveUnifier, HasProductive}
use Rattle.me_terms.specs.Order.{Precedes}
use Rattle.me_terms.specs.Next.{IsFirstRemaining, IsBeyond}
use Rattle.me_terms.specs.declared.bounds.Bound.{Bound}
use Rattle.me_terms.specs.declared.bounds.Bounds.{Bounds}
use Rattle.me_terms.specs.declared.atom.Literal.{Literal}
use Rattle.tuple_search.specs.Enumeration.{no_limits, HasUnifier, IsNextTuple, IsLastTuple}
use Rattle.tuple_search.specs.Cursors.{CursorValue}
use Rattle.next_rule.specs.SplitSearches.{split_limits, SplitTuple, SplitsPassed, SplitClause, SplitClauses, TakesSplits, IsFirstRemainingIn, MeetsFirst, Looks, IsSplitResult}
use Rattle.next_rule.specs.declared.split_state.SplitCandidate.{SplitCandidate}
use Rattle.next_rule.specs.declared.split_state.SplitState.{SplitState}
use Rattle.next_rule.proofs.Cursors.{IsCursor, Advances, limited}
use Rattle.next_rule.proofs.Tuples.{passed_precedes, passed_still, passed_here, passed_or_here}
use Rattle.next_rule.proofs.SplitSteps.{clause_of, split_tuple_step, split_tuples_end, split_tuples_start, split_clauses_start, split_clause_step, split_none, split_some, none_before}
use Rattle.next_rule.proofs.FirstMet.{InTurn, meets_none, meets_same, meets_then}

module _ (problem : ProblemValue) (bounds : Bounds) (context : Context) where
  -- After a look at the tuples of a clause that the cursor has passed.
  pub record SplitsSoFar (c : ℕ) (clause : ClauseValue) (cursor : CursorValue) (first state : SplitState) : Type 0 where
    pub over : IsCursor context clause.literals None (split_limits state.best) cursor
    pub looks : Looks problem bounds context (SplitsPassed c cursor.at) first state

  -- ---- the tuples of a clause
  module _ (c : ℕ) (clause : ClauseValue) (at_clause : ClauseAt problem c clause) where
    productive_at : (c' : ℕ) (tuple : List ℕ) (other : ClauseValue) (f : Family) → c' ≡ c → IsProductiveUnifier problem context c' tuple other f → HasUnifier context clause.literals None no_limits tuple
    productive_at c' tuple other f same p =
        let Q : ClauseValue → Type 0 = λ z. HasUnifier context z.literals None no_limits tuple in
        subst Q (clause_of problem bounds context c clause at_clause c' other same p.clause_at) (f, p.unifier, record { remains = tt; weighs = tt; pivot = tt })

    tuple_turn : (at : Option (List ℕ)) (next : List ℕ) → IsNextTuple context clause.literals None no_limits at next → InTurn problem bounds context (SplitsPassed c at) (SplitTuple c next) (SplitsPassed c (Some next))
    tuple_turn at next is_next = record {
      split = λ c' tuple other f r p. elim (passed_or_here context clause.literals None no_limits at next tuple is_next (productive_at c' tuple other f r.0 p) r.1) as (λ _. SplitsPassed c at c' tuple ⊎ SplitTuple c next c' tuple) [ inl h ↦ inl (r.0, h) | inr e ↦ inr (r.0, e) ];
      left = λ c' tuple s. (s.0, passed_still at next tuple is_next.later s.1);
      right = λ c' tuple t. (t.0, passed_here next tuple t.1);
      before = λ c1 c2 tuple1 tuple2 s t.
          let P : List ℕ → Type 0 = λ z. Precedes tuple1 z in
          let a = s.0 in let b = t.0 in
          inr (omega (arith, a, b), subst P (sym t.1) (passed_precedes at tuple1 next s.1 is_next.later));
    }

    looks_then : (at : Option (List ℕ)) (next : List ℕ) (a b d : SplitState) → IsNextTuple context clause.literals None (split_limits b.best) at next → Looks problem bounds context (SplitsPassed c at) a b → Looks problem bounds context (SplitTuple c next) b d → Looks problem bounds context (SplitsPassed c (Some next)) a d
    looks_then at next a b d is_next f g = record {
      takes = split_tuple_step problem bounds context c clause at_clause at next a.best b.best d.best is_next f.takes g.takes;
      meets = λ e.
          let none = none_before problem bounds context (SplitTuple c next) b.best d.best g.takes e in
          let P : Option SplitCandidate → Type 0 = λ z. IsNextTuple context clause.literals None (split_limits z) at next in
          meets_then problem bounds context (SplitsPassed c at) (SplitTuple c next) (SplitsPassed c (Some next)) (tuple_turn at next (subst P none is_next)) a.met b.met d.met (f.meets none) (g.meets e);
    }

    pub splits_so_far : (old moved new : CursorValue) (items : List ℕ) (a b d : SplitState) → SplitsSoFar c clause old a b → Advances context clause.literals None (split_limits b.best) old moved → moved.at ≡ Some items → Looks problem bounds context (SplitTuple c items) b d → new ≡ record moved { limits = split_limits d.best } → SplitsSoFar c clause new a d
    splits_so_far old moved new items a b d so_far moves shown looks e =
        let P : List ℕ → Type 0 = λ z. Looks problem bounds context (SplitTuple c z) b d in
        let Q : Option (List ℕ) → Type 0 = λ z. Looks problem bounds context (SplitsPassed c z) a d in
        let still : new.at ≡ moved.at = ap (λ (z : CursorValue). z.at) e in
        record {
          over = limited context clause.literals None (split_limits b.best) moved new (split_limits d.best) moves.over e;
          looks = subst Q (sym (still ∙ moves.stands)) (looks_then old.at moves.tuple a b d moves.is_next so_far.looks (subst P (same_Some items moves.tuple (sym shown ∙ moves.stands)) looks));
        }

    pub splits_all : (cursor : CursorValue) (a b : SplitState) → SplitsSoFar c clause cursor a b → IsLastTuple context clause.literals None (split_limits b.best) cursor.at → Looks problem bounds context (SplitClause c) a b
    splits_all cursor a b so_far last = record {
      takes = split_tuples_end problem bounds context c clause at_clause cursor.at a.best b.best last so_far.looks.takes;
      meets = λ e.
          let P : Option SplitCandidate → Type 0 = λ z. IsLastTuple context clause.literals None (split_limits z) cursor.at in
          meets_same problem bounds context (SplitsPassed c cursor.at) (SplitClause c) a.met b.met (λ c' tuple other f r p. (r, subst P e last tuple (productive_at c' tuple other f r p))) (λ c' tuple s. s.0) (so_far.looks.meets e);
    }

    pub splits_begin : (cursor : CursorValue) (a : SplitState) → IsCursor context clause.literals None (split_limits a.best) cursor → cursor.at ≡ None → SplitsSoFar c clause cursor a a
    splits_begin cursor a over e =
        let Q : Option (List ℕ) → Type 0 = λ z. Looks problem bounds context (SplitsPassed c z) a a in
        record {
          over = over;
          looks = subst Q (sym e) (record { takes = split_tuples_start problem bounds context c a.best; meets = λ _. meets_none problem bounds context (SplitsPassed c None) a.met (λ c' tuple s. s.1 tt) });
        }

  -- ---- the clauses
  pub looks_start : (a : SplitState) → Looks problem bounds context (SplitClauses 0) a a
  looks_start a = record { takes = split_clauses_start problem bounds context a.best; meets = λ _. meets_none problem bounds context (SplitClauses 0) a.met (λ c tuple s. absurd (omega (arith, s))) }

  clause_cases : (n p : ℕ) → p < n + 1 → (p < n) ⊎ (p ≡ n)
  clause_cases n p h = elim (cases_lt p n) as (λ _. (p < n) ⊎ (p ≡ n)) [ inl g ↦ inl g | inr g ↦ inr (omega arith) ]

  clause_turn : (n : ℕ) → InTurn problem bounds context (SplitClauses n) (SplitClause n) (SplitClauses (n + 1))
  clause_turn n = record {
    split = λ c tuple other f r p. clause_cases n c r;
    left = λ c tuple s. omega (arith, s);
    right = λ c tuple t. omega (arith, t);
    before = λ c1 c2 tuple1 tuple2 s t. inl (omega (arith, s, t));
  }

  pub looks_clause : (n : ℕ) (a b d : SplitState) → Looks problem bounds context (SplitClauses n) a b → Looks problem bounds context (SplitClause n) b d → Looks problem bounds context (SplitClauses (n + 1)) a d
  looks_clause n a b d f g = record {
    takes = split_clause_step problem bounds context n a.best b.best d.best f.takes g.takes;
    meets = λ e. meets_then problem bounds context (SplitClauses n) (SplitClause n) (SplitClauses (n + 1)) (clause_turn n) a.met b.met d.met (f.meets (none_before problem bounds context (SplitClause n) b.best d.best g.takes e)) (g.meets e);
  }

  -- ---- the whole problem
  within : (c : ℕ) (tuple : List ℕ) (clause : ClauseValue) (f : Family) → IsProductiveUnifier problem context c tuple clause f → c < length problem.clauses
  within c tuple clause f p = slice_get_within problem.clauses c clause p.clause_at

  first_of_all : (l : Literal) → IsFirstRemainingIn problem context (SplitClauses (length problem.clauses)) l → IsFirstRemaining problem context l
  first_of_all l m = record {
    c = m.c;
    tuple = m.tuple;
    clause = m.clause;
    family = m.family;
    place = m.place;
    others = m.others;
    literal = m.literal;
    productive = m.productive;
    first = λ c tuple clause f p. m.first c tuple clause f (within c tuple clause f p) p;
    first_place = m.first_place;
    literal_at = m.literal_at;
    unified_literal = m.unified_literal;
  }

  met_by : (now : Option Bound) (b : Bound) → now ≡ Some b → MeetsFirst problem bounds context (SplitClauses (length problem.clauses)) None now → (l : Literal) × IsFirstRemaining problem context l × IsBeyond b bounds l
  met_by now b is (inl (e, stay)) = cc (e, is)
  met_by now b is (inr (e, (b', is', (l, m, beyond)))) =
      let P : Bound → Type 0 = λ z. IsBeyond z bounds l in
      (l, first_of_all l m, subst P (same_Some b' b (sym is' ∙ is)) beyond)

  none_by : (now : Option Bound) → now ≡ None → MeetsFirst problem bounds context (SplitClauses (length problem.clauses)) None now → ¬ HasProductive problem context
  none_by now is (inl (e, inl some)) has = cc some
  none_by now is (inl (e, inr none)) has = none has.0 has.1 has.2 has.3 (within has.0 has.1 has.2 has.3 has.4) has.4
  none_by now is (inr (e, (b', is', m))) has = absurd (let f = is' in cc (f, is))

  pub split_result : (state : SplitState) → Looks problem bounds context (SplitClauses (length problem.clauses)) (record { best = None; met = None }) state → IsSplitResult problem bounds context state
  split_result state looks =
      let all : TakesSplits problem bounds context (SplitClauses (length problem.clauses)) None state.best = looks.takes in
      record {
        best = λ e is. split_some problem bounds context e (subst (λ z. TakesSplits problem bounds context (SplitClauses (length problem.clauses)) None z) is all);
        none = λ is. split_none problem bounds context (subst (λ z. TakesSplits problem bounds context (SplitClauses (length problem.clauses)) None z) is all);
        met = λ b none is. met_by state.met b is (looks.meets none);
        exhausted = λ none is. none_by state.met is (looks.meets none);
      }
