-- What is left of a list decides how a walk over it ends.
use Rattle.std.proofs.Common.{◌≡◌, ℕ, ◌+◌, ◌<◌, ◌≤◌, List, [], ◌∷◌, ◌++◌, length, drop, slice_get, get_or, Some, None, refl, sym, ap, ◌∙◌}
use Rattle.std.specs.List.{flat_map}
use Rattle.std.proofs.lemmas.List.{drop_more, drop_all}
use Rattle.me_terms.specs.Terms.{TermValue, arguments_of}
use Rattle.me_terms.proofs.Numbered.{drop_at}
use Rattle.problem_checks.specs.ValidityTests.{numbered_on}
use Rattle.problem_checks.proofs.ValidityTests.{numbered_some, numbered_none}
use Rattle.problem_checks.specs.PlainTests.{term_numbers, numbers_of}
use Rattle.problem_checks.specs.declared.numbering.Counted.{Counted}
use Rattle.problem_checks.specs.declared.numbering.Counted.TheVariants.{Functions, Variables}

-- ---- a number before others

pub first_some : (x : ℕ) (xs : List ℕ) (n m : ℕ) → Some m ≡ numbered_on n (x ∷ []) → numbered_on n (x ∷ xs) ≡ numbered_on m xs
first_some x xs n m e = numbered_some (x ∷ []) xs n m (sym e)

pub first_none : (x : ℕ) (xs : List ℕ) (n : ℕ) → None ≡ numbered_on n (x ∷ []) → numbered_on n (x ∷ xs) ≡ None
first_none x xs n e = numbered_none (x ∷ []) xs n (sym e)

-- ---- terms

module _ (counted : Counted) (items : List TermValue) (i : ℕ) (x : TermValue) (n : ℕ) where
  abbrev left : ℕ → List ℕ
  left k = numbers_of counted (arguments_of (drop k items))

  split_by : (kind : Counted) (xs : List TermValue) → numbers_of kind (arguments_of (x ∷ xs)) ≡ term_numbers kind x ++ numbers_of kind (arguments_of xs)
  split_by Functions xs = refl
  split_by Variables xs = refl

  split : slice_get items i ≡ Some x → left i ≡ term_numbers counted x ++ left (i + 1)
  split found = ap (λ (xs : List TermValue). numbers_of counted (arguments_of xs)) (drop_at items i x found) ∙ split_by counted (drop (i + 1) items)

  pub left_some : (m : ℕ) → slice_get items i ≡ Some x → Some m ≡ numbered_on n (term_numbers counted x) → numbered_on n (left i) ≡ numbered_on m (left (i + 1))
  left_some m found e = ap (numbered_on n) (split found) ∙ numbered_some (term_numbers counted x) (left (i + 1)) n m (sym e)

  pub left_none : slice_get items i ≡ Some x → None ≡ numbered_on n (term_numbers counted x) → numbered_on n (left i) ≡ None
  left_none found e = ap (numbered_on n) (split found) ∙ numbered_none (term_numbers counted x) (left (i + 1)) n (sym e)

pub left_all : (counted : Counted) (items : List TermValue) (i n : ℕ) → length items ≤ i → numbered_on n (numbers_of counted (arguments_of (drop i items))) ≡ Some n
left_all counted items i n past = ap (λ (xs : List TermValue). numbered_on n (numbers_of counted (arguments_of xs))) (drop_all i items past) ∙ nothing counted
  where
    nothing : (kind : Counted) → numbered_on n (numbers_of kind (arguments_of [])) ≡ Some n
    nothing Functions = refl
    nothing Variables = refl

-- ---- items of a list, each with numbers

module _ {X : Type 0} (f : X → List ℕ) (items : List X) (i : ℕ) (x : X) (n : ℕ) where
  abbrev rest : ℕ → List ℕ
  rest k = flat_map f (drop k items)

  parts : i < length items → x ≡ get_or items i x → rest i ≡ f x ++ rest (i + 1)
  parts lt is = ap (flat_map f) (drop_more items i x lt) ∙ ap (λ (y : X). f y ++ rest (i + 1)) (sym is)

  pub each_some : (m : ℕ) → i < length items → x ≡ get_or items i x → Some m ≡ numbered_on n (f x) → numbered_on n (rest i) ≡ numbered_on m (rest (i + 1))
  each_some m lt is e = ap (numbered_on n) (parts lt is) ∙ numbered_some (f x) (rest (i + 1)) n m (sym e)

  pub each_none : i < length items → x ≡ get_or items i x → None ≡ numbered_on n (f x) → numbered_on n (rest i) ≡ None
  each_none lt is e = ap (numbered_on n) (parts lt is) ∙ numbered_none (f x) (rest (i + 1)) n (sym e)

pub each_all : {X : Type 0} (f : X → List ℕ) (items : List X) (i n : ℕ) → length items ≤ i → numbered_on n (flat_map f (drop i items)) ≡ Some n
each_all {X} f items i n past = ap (λ (xs : List X). numbered_on n (flat_map f xs)) (drop_all i items past)
