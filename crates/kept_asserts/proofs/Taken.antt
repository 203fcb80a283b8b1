-- The keys of Asserts as one is taken out.
use Rattle.std.proofs.Common.{◌≡◌, ℕ, zero, suc, ◌<◌, ◌⊎◌, inl, inr, List, [], ◌∷◌, length, get_or, slice_get, Some, refl, sym, subst, ap, arith}
use Rattle.std.specs.List.{Contains, remove}
use Rattle.std.proofs.lemmas.Option.{slice_get_read, slice_get_within, get_or_from_slice_get}
use Rattle.std.proofs.lemmas.List.Sorted.{IsPermutation-remove, Contains-permutation}
use Rattle.me_terms.specs.Values.{ProblemValue, EntryValue}
use Rattle.me_terms.specs.Context.{Context}
use Rattle.me_terms.specs.Assert.{IsAssert, HasAssert}
use Rattle.me_terms.specs.Order.{Precedes, assert_key, IsLeastAssert}
use Rattle.me_terms.specs.declared.bounds.Bounds.{Bounds}
use Rattle.candidate_keys.specs.Keys.{AssertKeyValue, assert_code, HasCode, IsLeastAt}
use Rattle.kept_asserts.specs.Held.{HoldsAsserts, IsAssertOf}

at_cases : {A : Type 0} (ys : List A) (y x : A) (i : ℕ) → i < length (y ∷ ys) → get_or (y ∷ ys) i x ≡ x → (y ≡ x) ⊎ Contains ys x
at_cases ys y x zero lt e = inl e
at_cases ys y x (suc i) lt e = inr (i, omega arith, e)

cons_cases : {A : Type 0} (ys : List A) (y x : A) → Contains (y ∷ ys) x → (y ≡ x) ⊎ Contains ys x
cons_cases ys y x h = at_cases ys y x h.0 h.1 h.2

module _ (problem : ProblemValue) (bounds : Bounds) (context : Context) (keys : List AssertKeyValue) (all : HoldsAsserts problem bounds context keys) where
  -- the Assert of the least key is the least
  pub least_is : (k : ℕ) (key : AssertKeyValue) (e : EntryValue) → slice_get keys k ≡ Some key → IsLeastAt keys k → IsAssertOf problem bounds context key e → IsLeastAssert problem bounds context e
  least_is k key e at least h = (
    key.clause,
    key.place,
    key.tuple,
    h.assert,
    λ c place tuple other g.
        let found = all c place tuple other g in
        let i = found.1 in
        let there : slice_get keys i.0 ≡ Some found.0 = slice_get_read keys (length keys) i.0 found.0 refl i.1 (sym i.2) in
        let P : List ℕ × List ℕ → Type 0 = λ z. Precedes z.0 z.1 in
        let a = sym h.same in
        let b = found.2 in
        subst P (λ j. (a j, b j)) (least i.0 key found.0 at there),
  )

  pub none_left : keys ≡ [] → ¬ HasAssert problem bounds context
  none_left empty has =
      let found = all has.0 has.1 has.2 has.3 has.4 in
      let lt = found.1.1 in
      let len = ap length empty in
      omega (arith, lt, len)

  -- where a key is of no Assert, the others have all
  module _ (k : ℕ) (key : AssertKeyValue) (at : slice_get keys k ≡ Some key) (none : (e : EntryValue) → ¬ IsAssertOf problem bounds context key e) where
    same_key : (c place : ℕ) (tuple : List ℕ) (e : EntryValue) → IsAssert problem bounds context c place tuple e → assert_code key ≡ assert_key c place tuple e → ⊥
    same_key c place tuple e h same =
        let a : key.clause ≡ c = cc in
        let b : key.place ≡ place = cc in
        let d : key.tuple ≡ tuple = cc in
        let P : ℕ × ℕ × List ℕ → Type 0 = λ z. IsAssert problem bounds context z.0 z.1 z.2 e in
        let Q : ℕ × ℕ × List ℕ → Type 0 = λ z. assert_key z.0 z.1 z.2 e ≡ assert_code key in
        none e (record { assert = subst P (λ i. (sym a i, sym b i, sym d i)) h; same = subst Q (λ i. (sym a i, sym b i, sym d i)) (sym same) })

    pub taken : HoldsAsserts problem bounds context (remove keys k)
    taken c place tuple e h =
        let found = all c place tuple e h in
        let lt = slice_get_within keys k key at in
        let moves = IsPermutation-remove keys k key lt (sym (get_or_from_slice_get keys k key key at)) in
        elim (cons_cases (remove keys k) key found.0 (Contains-permutation keys (key ∷ remove keys k) found.0 moves found.1)) as (λ _. HasCode (remove keys k) (assert_key c place tuple e)) [
          | inl here ↦ (let P : AssertKeyValue → Type 0 = λ z. assert_code z ≡ assert_key c place tuple e in absurd (same_key c place tuple e h (subst P (sym here) found.2)))
          | inr there ↦ (found.0, there, found.2)
        ]
