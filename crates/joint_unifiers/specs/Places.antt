-- Places of a clause, and those that may be skipped.
use Rattle.std.specs.Prelude.{ℕ, ◌<◌, List, length, Option, Some, None, ⊤}
use Rattle.std.specs.List.{All}
use Rattle.me_terms.specs.declared.atom.Literal.{Literal}

-- Each number is a place of the list of literals.
abbrev pub ArePlaces : List Literal → List ℕ → Type 0
ArePlaces literals places = All (λ place. place < length literals) places

-- The place, where there is one, is one of so many.
abbrev pub IsPlaceOf : Option ℕ → ℕ → Type 0
IsPlaceOf None places = ⊤
IsPlaceOf (Some place) places = place < places
