-- Pieces: parts before their lists are weighed, which say where they stand.
use Rattle.std.specs.Prelude.{ℕ, true, false, List, [], ◌∷◌, ◌++◌}
use Rattle.me_terms.specs.Values.{InstanceValue}
use Rattle.me_terms.specs.Context.{Context}
use Rattle.me_terms.specs.Outcome.{TreeOutcome}
use Rattle.me_terms.specs.Outcome as outcome
use Rattle.me_terms.specs.declared.bounds.Bound.{Bound}
use Rattle.branch_core.specs.Paths.{Turns}

-- A piece is a part before its list is weighed. It also says where it stands: a Sat the turns of its exhausted leaf, and a Cut those of the first node that it replaces.
pub data Piece : Type 0 where
  Closed : List InstanceValue → Piece
  Bounded : Bound → Piece
  Sat : Turns → Context → Piece
  Gift : Turns → Piece
  Cut : Turns → ℕ → Piece
  NoMemory : Piece

-- The piece of an own leaf.
abbrev pub leaf_piece : Turns → TreeOutcome → Piece
leaf_piece turns (outcome.Closed list) = Closed list
leaf_piece turns (outcome.Sat context) = Sat turns context
leaf_piece turns (outcome.Met b) = Bounded b

-- The turns to the left child.
abbrev pub go_left : Turns → Turns
go_left turns = turns ++ false ∷ []

-- The turns to the right child.
abbrev pub go_right : Turns → Turns
go_right turns = turns ++ true ∷ []
