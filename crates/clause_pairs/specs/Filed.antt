-- Places of literals by a number and a sign.
use Rattle.std.specs.Prelude.{◌≡◌, ℕ, Bool, true, false, List, [], ◌∷◌, ◌++◌, slice_index_or}
use Rattle.clause_pairs.specs.declared.clause_place.ClausePlace.{ClausePlace}

-- The places of a number.
pub record BySignValue : Type 0 where
  pub positive : List ClausePlace
  pub negative : List ClausePlace

abbrev pub of_sign : Bool → BySignValue → List ClausePlace
of_sign true v = v.positive
of_sign false v = v.negative

-- the places under the number and the sign; there are none under a number that has no list
abbrev pub filed : List BySignValue → ℕ → Bool → List ClausePlace
filed lists n positive = of_sign positive (slice_index_or lists n (record { positive = []; negative = [] }))

-- Under each number and sign are the same places as before.
abbrev pub AreAsBefore : List BySignValue → List BySignValue → Type 0
AreAsBefore before after = (n : ℕ) (positive : Bool) → filed after n positive ≡ filed before n positive

-- The place is put to those of the number and the sign, and all others are as before.
pub record Files (number : ℕ) (positive : Bool) (at : ClausePlace) (before after : List BySignValue) : Type 0 where
  pub here : filed after number positive ≡ filed before number positive ++ at ∷ []
  pub others : (n : ℕ) (sign : Bool) → ¬ ((n ≡ number) × (sign ≡ positive)) → filed after n sign ≡ filed before n sign
