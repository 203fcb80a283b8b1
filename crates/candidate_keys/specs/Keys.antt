-- What a contract sees of candidates that are kept, and how they are ordered.
use Rattle.std.specs.Prelude.{◌≡◌, ℕ, ◌⊎◌, List, [], ◌∷◌, ◌++◌, slice_get, Option, Some, None}
use Rattle.std.specs.List.{Contains}
use Rattle.me_terms.specs.Order.{Precedes, kind_rank}
use Rattle.me_terms.specs.declared.entry.Kind.{Kind}
use Rattle.candidate_keys.specs.declared.unifier_key.Fit.{Fit}

-- An Assert by what it is ordered by.
pub record AssertKeyValue : Type 0 where
  pub kind : Kind
  pub weight : ℕ
  pub clause : ℕ
  pub place : ℕ
  pub tuple : List ℕ

-- By kind, weight, clause, place and tuple.
abbrev pub assert_code : AssertKeyValue → List ℕ
assert_code k = kind_rank k.kind ∷ k.weight ∷ k.clause ∷ k.place ∷ k.tuple

-- Some key has that code.
abbrev pub HasCode : List AssertKeyValue → List ℕ → Type 0
HasCode keys code = (k : AssertKeyValue) × Contains keys k × (assert_code k ≡ code)

-- The key at the place comes at or before each of them.
abbrev pub IsLeastAt : List AssertKeyValue → ℕ → Type 0
IsLeastAt keys k =
    (i : ℕ) (a b : AssertKeyValue) → slice_get keys k ≡ Some a → slice_get keys i ≡ Some b → Precedes (assert_code a) (assert_code b)

-- Of the keys at the two places it is that of the one that comes first.
abbrev pub IsEarlier : List AssertKeyValue → ℕ → ℕ → ℕ → Type 0
IsEarlier keys i k found =
    (a b : AssertKeyValue) → slice_get keys i ≡ Some a → slice_get keys k ≡ Some b
    → ((found ≡ i) × Precedes (assert_code a) (assert_code b)) ⊎ ((found ≡ k) × ¬ Precedes (assert_code a) (assert_code b))

-- A unifier of a clause and a tuple, with the literal of its remainder that is split on, if one fits.
pub record UnifierKeyValue : Type 0 where
  pub fit : Option Fit
  pub clause : ℕ
  pub tuple : List ℕ

-- Those with a literal that fits come first, by the order of Splits; then the others, by clause and tuple.
abbrev pub code_by : Option Fit → ℕ → List ℕ → List ℕ
code_by (Some fit) c tuple = 0 ∷ fit.size ∷ fit.weight ∷ c ∷ tuple ++ fit.place ∷ []
code_by None c tuple = 1 ∷ c ∷ tuple

abbrev pub unifier_code : UnifierKeyValue → List ℕ
unifier_code k = code_by k.fit k.clause k.tuple
