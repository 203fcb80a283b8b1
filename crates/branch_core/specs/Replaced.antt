-- The first move by which parts stand for a path: pieces come from leaves, with replacements.
use Rattle.branch_core.specs.Pieces.{Piece, Gift, Cut, NoMemory, leaf_piece, go_left, go_right}
use Rattle.std.specs.Prelude.{ℕ, List, [], ◌∷◌, ◌++◌}
use Rattle.me_terms.specs.Outcome.{TreeOutcome}
use Rattle.branch_core.specs.Paths.{Turns}
use Rattle.branch_core.specs.SearchTree.{SearchTree, Leaf, Node}

-- The leaves of the tree at these turns, from left to right, with replacements. A Gift replaces the subtree of the gift. A Cut with a key that may cut there, or a NoMemory, replaces a subtree in which no Gift is left; runs of Cuts are joined below.
pub data Replaced (MayCut : ℕ → Turns → Type 0) : Turns → SearchTree → List Piece → Type 0 where
  own_leaf : {turns : Turns} {outcome : TreeOutcome} → Replaced MayCut turns (Leaf outcome) (leaf_piece turns outcome ∷ [])
  own_node : {turns : Turns} {left right : SearchTree} {before after : List Piece} → Replaced MayCut (go_left turns) left before → Replaced MayCut (go_right turns) right after → Replaced MayCut turns (Node left right) (before ++ after)
  given : {turns : Turns} {search : SearchTree} → Replaced MayCut turns search (Gift turns ∷ [])
  cut : {turns : Turns} {search : SearchTree} {key : ℕ} → MayCut key turns → Replaced MayCut turns search (Cut turns key ∷ [])
  no_memory : {turns : Turns} {search : SearchTree} → Replaced MayCut turns search (NoMemory ∷ [])
