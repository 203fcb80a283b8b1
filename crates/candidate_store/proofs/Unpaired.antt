-- Places against whose literals no entry stands, and the lists of those that do.
use Rattle.std.proofs.Common.{◌≡◌, ℕ, ◌+◌, ◌<◌, ◌≤◌, ◌⊎◌, inl, inr, Bool, true, false, not, List, [], ◌∷◌, ◌++◌, length, take, get_or, slice_get, Option, Some, None, refl, sym, subst, ap, ◌∙◌, arith}
use Rattle.std.specs.List.{Contains}
use Rattle.std.specs.declared.vec.Vec.{Vec}
use Rattle.std.specs.declared.alloc.Global.{Global}
use Rattle.std.specs.List.Sorted.{IsNonDecreasing}
use Rattle.std.proofs.lemmas.Bool.{cases_eq, cases_lt}
use Rattle.std.proofs.lemmas.Option.{slice_get_within, slice_get-get_or, get_or_from_slice_get}
use Rattle.std.proofs.lemmas.List.{length-map, get_or-map, map_push, map_more, take_all}
use Rattle.me_terms.specs.Values.{ProblemValue, ClauseValue, EntryValue}
use Rattle.me_terms.specs.Context.{Context, IsContext, StandsAt}
use Rattle.me_terms.specs.Positions.{ClauseAt}
use Rattle.me_terms.specs.Close.{IsClose}
use Rattle.me_terms.specs.Assert.{IsAssert}
use Rattle.me_terms.specs.declared.bounds.Bounds.{Bounds}
use Rattle.me_terms.specs.declared.atom.Literal.{Literal}
use Rattle.me_laws.proofs.Determined.{clause_same}
use Rattle.me_laws_increments.proofs.Places.{there}
use Rattle.me_laws_increments.specs.Pairs.{HasLiteralPair}
use Rattle.me_laws_increments.proofs.Pairs.{close_needs_pairs, assert_needs_pairs, productive_needs_pairs}
use Rattle.tuple_search.specs.declared.limits.Pivot.{Pivot}
use Rattle.tuple_search.specs.Partners.{ArePartners}
use Rattle.clause_pairs.specs.declared.clause_place.ClausePlace.{ClausePlace}
use Rattle.clause_pairs.specs.Lists.{IsRising, HasPlace, list_at}
use Rattle.clause_pairs.specs.Meetings.{LiteralAt}
use Rattle.clause_pairs.specs.Values.{PairsValue, numbers_of}
use Rattle.clause_pairs.specs.Pairs.{ArePairs}
use Rattle.me_terms.specs.Order.{assert_key}
use Rattle.candidate_keys.specs.Keys.{AssertKeyValue, HasCode, UnifierKeyValue}
use Rattle.candidate_store.specs.Searches.{At, FoundClose, ByPlace, Beside, AssertsAt, HoldsAssertsIn, HaveUnifiersIn, HasNone, HasUnmet, IsBareAt}

abbrev place_at : ℕ → ℕ → ClausePlace
place_at c i = record { clause = c; place = i }

none_in_empty : (k : ℕ) → ¬ Contains [] k
none_in_empty k h = let lt = h.1 in omega (arith, lt)

-- ---- the lists as the program keeps them
abbrev list_items : Vec ℕ Global → List ℕ
list_items v = v.items

none_of : (xs : List ℕ) → length xs ≡ 0 → xs ≡ []
none_of [] h = refl
none_of (x ∷ xs) h = absurd (omega arith)

pub empty_list : (lists : List (Vec ℕ Global)) (i : ℕ) (v : Vec ℕ Global) → i < length lists → v ≡ get_or lists i v → length v.items ≡ 0 → slice_get (numbers_of lists) i ≡ Some []
empty_list lists i v lt at empty =
    let len = length-map lists list_items in
    let read : get_or (numbers_of lists) i [] ≡ [] = get_or-map list_items lists i v [] lt ∙ (ap list_items (sym at) ∙ none_of v.items empty) in
    slice_get-get_or (numbers_of lists) i [] (omega (arith, lt, len)) ∙ ap (λ (z : List ℕ). Some z) read

-- ---- signs
pub sign_apart : (a b : Bool) → a ≡ b → ¬ (a ≡ not b)
sign_apart true true e h = cc h
sign_apart true false e h = cc e
sign_apart false true e h = cc e
sign_apart false false e h = cc h

-- the list of a place, by the lists of its clause
list_there : (vs : List (List (List ℕ))) (c i : ℕ) (lists : List (List ℕ)) (list : List ℕ) → slice_get vs c ≡ Some lists → slice_get lists i ≡ Some list → HasPlace vs (place_at c i) × (list_at vs (place_at c i) ≡ list)
list_there vs c i lists list a b =
    let row : get_or vs c [] ≡ lists = get_or_from_slice_get vs c lists [] a in
    let P : List (List ℕ) → Type 0 = λ z. i < length z in (
      (slice_get_within vs c lists a, subst P (sym row) (slice_get_within lists i list b)),
      ap (λ (z : List (List ℕ)). get_or z i []) row ∙ get_or_from_slice_get lists i list [] b,
    )

module _ (problem : ProblemValue) (context : Context) (v : PairsValue) (pairs : ArePairs problem context v) where
  -- where the list of a place is empty, nothing but the pseudo-literal stands against its literal
  pub unpaired : (c i : ℕ) (lists : List (List ℕ)) → slice_get v.lists c ≡ Some lists → slice_get lists i ≡ Some [] → (l : Literal) × LiteralAt problem (place_at c i) l × (¬ HasLiteralPair context l)
  unpaired c i lists row list =
      let there = list_there v.lists c i lists [] row list in
      let l = (pairs.each_place (place_at c i)).0 there.0 in
      let P : List ℕ → Type 0 = λ z. (k : ℕ) → ¬ Contains z k in
      let none = subst P (sym there.1) none_in_empty in
      (l.0, l.1, λ h. none h.0 (((pairs.list (place_at c i) l.0 l.1).exact h.0).1 (h.2, (h.1, h.3.0, h.4))))

  pub close_unpaired : IsContext context → (q : ClausePlace) (p : ℕ) (lists : List (List ℕ)) (skip : ℕ) → slice_get v.lists q.clause ≡ Some lists → HasNone lists skip → FoundClose problem context (At q p) None
  close_unpaired is_context q p lists skip row none c tuple region h =
      let l = unpaired q.clause none.0 lists row none.2 in
      let P : ℕ → Type 0 = λ z. IsClose problem context z tuple in
      l.2 (close_needs_pairs problem context q.clause tuple l.1.0 none.0 l.0 is_context (subst P region.0 h) l.1.1 l.1.2)

  pub assert_unpaired : (bounds : Bounds) → IsContext context → (c place : ℕ) (pivot : Option Pivot) (lists : List (List ℕ)) (keys : List AssertKeyValue) → slice_get v.lists c ≡ Some lists → HasNone lists place → HoldsAssertsIn problem bounds context (ByPlace c place pivot) keys
  assert_unpaired bounds is_context c place pivot lists keys row none c2 place2 tuple e region h =
      let l = unpaired c none.0 lists row none.2 in
      let P : ℕ × ℕ → Type 0 = λ z. IsAssert problem bounds context z.0 z.1 tuple e in
      let a = region.0 in
      let b = region.1 in
      absurd (l.2 (assert_needs_pairs problem bounds context c place tuple e l.1.0 none.0 l.0 is_context (subst P (λ i. (a i, b i)) h) l.1.1 l.1.2 none.1))

  -- an Assert leaves out the place of an empty list
  pub asserts_leave_bare : (bounds : Bounds) → IsContext context → (q : ClausePlace) (p place : ℕ) (keys : List AssertKeyValue) → IsBareAt v.lists q.clause place → HoldsAssertsIn problem bounds context (Beside q place p) keys → HoldsAssertsIn problem bounds context (AssertsAt q p) keys
  asserts_leave_bare bounds is_context q p place keys bare h c other tuple e region a =
      elim (cases_eq other place) as (λ _. HasCode keys (assert_key c other tuple e)) [
        | inl same ↦ h c other tuple e (same, region) a
        | inr apart ↦ assert_unpaired bounds is_context q.clause other None bare.0 keys bare.1 (place, (λ same. apart (sym same)), bare.2) c other tuple e (region.0, refl, tt) a
      ]

  pub unifiers_unmet : (bounds : Bounds) (q : ClausePlace) (p : ℕ) (keys : List UnifierKeyValue) → HasUnmet problem context q.clause → HaveUnifiersIn problem bounds context (At q p) keys
  unifiers_unmet bounds q p keys unmet c tuple clause f region h =
      let l = unmet.2 in
      let P : ℕ → Type 0 = λ z. ClauseAt problem z clause in
      let Q : ClauseValue → Type 0 = λ z. slice_get z.literals unmet.0 ≡ Some unmet.1 in
      let same = clause_same problem q.clause l.0 clause l.1 (subst P region.0 h.clause_at) in
      absurd (unmet.3 (productive_needs_pairs problem context c tuple clause f unmet.0 unmet.1 h (subst Q same l.2)))

  -- the pseudo-literal is the only other entry
  at_start : (k : ℕ) → (0 < k) ⊎ (k ≡ 0)
  at_start k = elim (cases_lt 0 k) as (λ _. (0 < k) ⊎ (k ≡ 0)) [ inl l ↦ inl l | inr g ↦ inr (omega arith) ]

  pub unmet : (c i : ℕ) (lists : List (List ℕ)) (l : Literal) → slice_get v.lists c ≡ Some lists → slice_get lists i ≡ Some [] → LiteralAt problem (place_at c i) l → ((e : EntryValue) → StandsAt context 0 e → ¬ (e.positive ≡ not l.positive)) → HasUnmet problem context c
  unmet c i lists l row list at opposed =
      let there = list_there v.lists c i lists [] row list in
      let P : List ℕ → Type 0 = λ z. (k : ℕ) → ¬ Contains z k in
      let none = subst P (sym there.1) none_in_empty in (
        i,
        l,
        at,
        λ h. elim (at_start h.0) as (λ _. ⊥) [
          | inl positive ↦ none h.0 (((pairs.list (place_at c i) l at).exact h.0).1 (positive, (h.1, h.2.0, h.3)))
          | inr first ↦ (let Q : ℕ → Type 0 = λ z. StandsAt context z h.1 in opposed h.1 (subst Q first h.2.0) h.3.0)
        ],
      )

  -- a clause has as many lists as literals
  module _ (c : ℕ) (clause : ClauseValue) (clause_at : ClauseAt problem c clause) (lists : List (List ℕ)) (row : slice_get v.lists c ≡ Some lists) where
    row_is : get_or v.lists c [] ≡ lists
    row_is = get_or_from_slice_get v.lists c lists [] row

    literal_has_list : (i : ℕ) → i < length clause.literals → i < length lists
    literal_has_list i lt =
        let l = there clause.literals i lt in
        let has = (pairs.each_place (place_at c i)).1 (l.0, (clause, clause_at, l.1)) in
        let P : List (List ℕ) → Type 0 = λ z. i < length z in
        subst P row_is has.1

    pub list_within : (i : ℕ) (rows : List (Vec ℕ Global)) → numbers_of rows ≡ lists → i < length clause.literals → i < length rows
    list_within i rows same lt =
        let a = literal_has_list i lt in
        let b = ap length same in
        let len = length-map rows list_items in
        omega (arith, a, b, len)

  -- ---- the lists of a clause are those of its partners
  rising_falls_not : (xs : List ℕ) → IsRising xs → IsNonDecreasing xs
  rising_falls_not xs h i j d le lt =
      elim (cases_lt i j) as (λ _. get_or xs i d ≤ get_or xs j d) [
        | inl less ↦ (let g = h i j d less lt in omega (arith, g))
        | inr ge ↦ (let same : i ≡ j = omega arith in let e : get_or xs i d ≡ get_or xs j d = ap (λ z. get_or xs z d) same in omega (arith, e))
      ]

  module _ (c : ℕ) (clause : ClauseValue) (clause_at : ClauseAt problem c clause) (lists : List (List ℕ)) (row : slice_get v.lists c ≡ Some lists) (partners : List (Vec ℕ Global)) (same : numbers_of partners ≡ lists) where
    list_of : (i : ℕ) (s : Vec ℕ Global) → slice_get partners i ≡ Some s → slice_get lists i ≡ Some s.items
    list_of i s at =
        let lt = slice_get_within partners i s at in
        let len = length-map partners list_items in
        let len2 = ap length same in
        let read : get_or lists i [] ≡ s.items = ap (λ (z : List (List ℕ)). get_or z i []) (sym same) ∙ (get_or-map list_items partners i s [] lt ∙ ap list_items (get_or_from_slice_get partners i s s at)) in
        slice_get-get_or lists i [] (omega (arith, lt, len, len2)) ∙ ap (λ (z : List ℕ). Some z) read

    pub are_partners : ArePartners context clause.literals partners
    are_partners = record {
      rising = λ i s at.
          let there = list_there v.lists c i lists s.items row (list_of i s at) in
          let l = (pairs.each_place (place_at c i)).0 there.0 in
          let P : List ℕ → Type 0 = λ z. IsRising z in
          rising_falls_not s.items (subst P there.1 (pairs.list (place_at c i) l.0 l.1).rising);
      complete = λ i k h.
          let l = h.0 in
          let at : LiteralAt problem (place_at c i) l = (clause, clause_at, h.3) in
          let has = (pairs.each_place (place_at c i)).1 (l, at) in
          let row_is : get_or v.lists c [] ≡ lists = get_or_from_slice_get v.lists c lists [] row in
          let P : List (List ℕ) → Type 0 = λ z. i < length z in
          let lt : i < length lists = subst P row_is has.1 in
          let len = length-map partners list_items in
          let len2 = ap length same in
          let found = there partners i (omega (arith, lt, len, len2)) in
          let s = found.0 in
          let list_is : list_at v.lists (place_at c i) ≡ s.items = (list_there v.lists c i lists s.items row (list_of i s found.1)).1 in
          let Q : List ℕ → Type 0 = λ z. Contains z k in
          (s, found.1, subst Q list_is (((pairs.list (place_at c i) l at).exact k).1 (h.2, (h.1, h.4, h.5))));
    }
