-- Without functions with arguments, and with wide bounds, no grown context meets the depth, the weight or the literals.
use Rattle.std.proofs.Common.{◌≡◌, ℕ, ◌+◌, ◌<◌, ◌≤◌, Bool, true, false, cond, ◌⊎◌, inl, inr, nat_le, List, [], ◌∷◌, length, slice_get, None, refl, sym, subst, ◌∙◌, length-append, arith}
use Rattle.me_terms.specs.Variables.{count, is_canonical, are_ground}
use Rattle.me_terms.specs.Measures.{literal_depth, literal_weight, list_weight}
use Rattle.me_terms.specs.Values.{ProblemValue, SymbolValue, EntryValue, InstanceValue, SplitLeft}
use Rattle.me_terms.specs.Context.{Context, IsContext, IsLiteralEntry, add}
use Rattle.me_terms.specs.Positions.{positions_of}
use Rattle.me_terms.specs.Unifier.{unified}
use Rattle.me_terms.specs.Split.{IsSplit, split_kind, HasSplit}
use Rattle.me_terms.specs.Next.{IsNext, Bounded, IsFirstRemaining, MeetsBound}
use Rattle.me_terms.specs.Assert.{HasAssert}
use Rattle.me_terms.specs.Grown.{split_entry, IsGrown, started, asserted, went_left, went_right}
use Rattle.me_terms.specs.Outcome.{TreeOutcome, HasOutcome, both, Closed, Sat, Met, closes, is_exhausted, is_bounded, asserts, splits}
use Rattle.me_terms.specs.Answer.{answer_of, HasAnswer, GaveUp, Unsatisfiable}
use Rattle.me_terms.specs.Validity.{IsValid}
use Rattle.me_terms.specs.declared.bounds.Bound.{Bound}
use Rattle.me_terms.specs.declared.bounds.Bound.TheVariants as bound
use Rattle.me_terms.specs.declared.bounds.Bounds.{Bounds}
use Rattle.me_terms.specs.declared.atom.Literal.{Literal}
use Rattle.me_laws.proofs.Grown.{grown, canonical_is, add_context, asserted_literal, split_by}
use Rattle.me_laws_counting.specs.Twice.{RepeatsSharpen}
use Rattle.me_laws_counting.specs.FunctionFree.{IsFunctionFree, IsRoomy}
use Rattle.me_laws_counting.proofs.Repeats.{assert_sharpens, split_is_new, add_sharpens, repeats_sharpen}
use Rattle.me_laws_counting.proofs.Small.{IsSmall, taken, all_at, small_depths, small_weights}
use Rattle.me_laws_counting.proofs.SmallContext.{AreSmall, unified_small, assert_small, split_small, add_small, grown_small}
use Rattle.me_laws_counting.proofs.Counted.{few_entries}

module _ (problem : ProblemValue) (bounds : Bounds) (valid : IsValid problem) (free : IsFunctionFree problem) (roomy : IsRoomy problem bounds) where
  small_fits : (l : Literal) → IsSmall problem.signature l.atom → (literal_depth l ≤ bounds.depth) × (literal_weight l ≤ bounds.weight)
  small_fits l h =
      let t = taken (slice_get problem.signature.predicates l.atom.pred) (count l.atom.args) h.known in
      let wide = all_at (λ (symbol : SymbolValue). 1 + symbol.arity ≤ bounds.weight) problem.signature.predicates l.atom.pred t.0 roomy.weight t.1 in
      let deep = small_depths (length problem.signature.functions) l.atom.args h.small in
      let heavy = small_weights (length problem.signature.functions) l.atom.args h.small in
      let arity = t.2 in
      let depth = roomy.depth in
      (omega (arith, deep, depth), omega (arith, wide, heavy, arity))

  first_remaining_fits : (context : Context) → IsGrown problem bounds context → (l : Literal) → IsFirstRemaining problem context l → (literal_depth l ≤ bounds.depth) × (literal_weight l ≤ bounds.weight)
  first_remaining_fits context h l first =
      let small = unified_small problem valid free context first.c first.clause (positions_of None first.tuple) first.family first.place first.literal (grown_small problem valid free h) first.productive.clause_at first.productive.unifier.unifier first.literal_at in
      let P : Literal → Type 0 = λ x. (literal_depth x ≤ bounds.depth) × (literal_weight x ≤ bounds.weight) in
      subst P (sym first.unified_literal) (small_fits (unified first.family first.literal) small)

  -- what can be added to a context leaves it below the bound of literals
  room : (context : Context) (e : EntryValue) → IsContext (add context e) → AreSmall problem.signature (add context e) → RepeatsSharpen (add context e) → length context < bounds.literals
  room context e context_is small sharpen =
      let few = few_entries problem.signature (add context e) context_is small sharpen in
      let longer = length-append context (e ∷ []) in
      let wide = roomy.literals in
      omega (arith, few, longer, wide)

  assert_room : (context : Context) → IsGrown problem bounds context → HasAssert problem bounds context → length context < bounds.literals
  assert_room context h (c, place, tuple, e, candidate) =
      let before = grown_small problem valid free h in
      room context e
      (add_context context e (grown h).0 (asserted_literal problem bounds context c place tuple e candidate))
      (add_small problem valid free context e before (assert_small problem valid free bounds context c place tuple e before candidate))
      (add_sharpens context e (repeats_sharpen h) (assert_sharpens problem bounds context c place tuple e candidate))

  split_literal : (context : Context) (c place size : ℕ) (tuple : List ℕ) (l : Literal) → IsSplit problem bounds context c place tuple size l → IsLiteralEntry (split_entry l (split_kind l) SplitLeft)
  split_literal context c place size tuple l h =
      let P : Literal → Type 0 = λ x. is_canonical x.atom ≡ true in
      (subst P (sym h.split_literal) (canonical_is (unified h.family h.literal).atom), λ g. split_by (are_ground l.atom.args) g)

  split_room : (context : Context) → IsGrown problem bounds context → HasSplit problem bounds context → length context < bounds.literals
  split_room context h (c, place, size, tuple, l, candidate) =
      let before = grown_small problem valid free h in
      let e = split_entry l (split_kind l) SplitLeft in
      let new = split_is_new problem bounds context c place size tuple l (grown h).0 candidate in
      room context e
      (add_context context e (grown h).0 (split_literal context c place size tuple l candidate))
      (add_small problem valid free context e before (split_small problem valid free bounds context c place size tuple l before candidate))
      (add_sharpens context e (repeats_sharpen h) (λ k f stands variant. absurd (new k f stands variant)))

  no_meeting : (context : Context) → IsGrown problem bounds context → (b : Bound) → MeetsBound problem bounds context b → ⊥
  no_meeting context h bound.Depth m = let fits = first_remaining_fits context h m.2.0 m.2.1 in omega (arith, fits.0, m.2.2)
  no_meeting context h bound.Weight m = let fits = first_remaining_fits context h m.2.0 m.2.1 in omega (arith, fits.1, m.2.2.1)
  no_meeting context h bound.Literals m = m.0 (elim m.1 as (λ _. length context < bounds.literals) [ inl a ↦ assert_room context h a | inr s ↦ split_room context h s ])
  no_meeting context h bound.List m = m

  pub no_bound : (context : Context) (b : Bound) → IsGrown problem bounds context → ¬ IsNext problem bounds context (Bounded b)
  no_bound context b h next = no_meeting context h b next.1

  -- ---- answers
  both_met : (left right : TreeOutcome) (b : Bound) → both left right ≡ Met b → ((c : Bound) × (left ≡ Met c)) ⊎ ((c : Bound) × (right ≡ Met c))
  both_met (Sat context) right b h = cc h
  both_met (Closed list) (Sat context) b h = cc h
  both_met (Met c) right b h = inl (c, refl)
  both_met (Closed list) (Met c) b h = inr (c, refl)
  both_met (Closed list) (Closed more) b h = cc h

  none_met : {context : Context} {outcome : TreeOutcome} → IsGrown problem bounds context → HasOutcome problem bounds context outcome → (b : Bound) → outcome ≡ Met b → ⊥
  none_met h (closes next list) b e = cc e
  none_met h (is_exhausted next) b e = cc e
  none_met h (is_bounded {context = context} {b = c} next) b e = no_bound context c h next
  none_met h (asserts next later) b e = none_met (asserted h next) later b e
  none_met h (splits {left = left} {right = right} next first second is) b e =
      elim (both_met left right b (sym is ∙ e)) as (λ _. ⊥) [
        | inl l ↦ none_met (went_left h next) first l.0 l.1
        | inr r ↦ none_met (went_right h next) second r.0 r.1
      ]

  gave_up : (b c : Bound) → GaveUp b ≡ GaveUp c → b ≡ c
  gave_up b c h = cc h

  list_by : (list : List InstanceValue) (test : Bool) (b : Bound) → GaveUp b ≡ cond test (Unsatisfiable list) (GaveUp bound.List) → b ≡ bound.List
  list_by list true b h = cc h
  list_by list false b h = gave_up b bound.List h

  by_outcome : (outcome : TreeOutcome) (b : Bound) → ((c : Bound) → outcome ≡ Met c → ⊥) → GaveUp b ≡ answer_of bounds outcome → b ≡ bound.List
  by_outcome (Sat context) b none h = cc h
  by_outcome (Met c) b none h = absurd (none c refl)
  by_outcome (Closed list) b none h = list_by list (nat_le (list_weight list) bounds.list) b h

  pub only_list : (b : Bound) → HasAnswer problem bounds (GaveUp b) → b ≡ bound.List
  only_list b h = by_outcome h.0 b (λ c e. none_met started h.1 c e) h.2
