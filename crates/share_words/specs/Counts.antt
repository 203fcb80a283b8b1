-- How often something stands in a list, and numbers of all seats added up.
use Rattle.std.specs.Prelude.{◌≡◌, ℕ, ◌+◌, Bool, cond, nat_eq, List, [], ◌∷◌}
use mathlib.Core.Option.{some}
use lib.ListN.{get_elem?}
use Rattle.branch_core.specs.Paths.{Turns}
use Rattle.branch_core.specs.Core.{turns_eq}

-- How many things of a list meet a test.
abbrev pub many : {A : Type 0} → (A → Bool) → List A → ℕ
many test [] = 0
many test (x ∷ xs) = cond (test x) 1 0 + many test xs

-- How often a path stands in a list.
abbrev pub path_count : Turns → List Turns → ℕ
path_count path paths = many (turns_eq path) paths

-- How often a number stands in a list.
abbrev pub number_count : ℕ → List ℕ → ℕ
number_count n bears_number = many (nat_eq n) bears_number

-- A number of each view, added up.
abbrev pub total : {V : Type 0} → (V → ℕ) → List V → ℕ
total f [] = 0
total f (v ∷ vs) = f v + total f vs

-- Each view is so.
abbrev pub Each : {V : Type 0} → (V → Type 0) → List V → Type 0
Each {V} IsSo views = (id : ℕ) (v : V) → get_elem? views id ≡ some v → IsSo v
