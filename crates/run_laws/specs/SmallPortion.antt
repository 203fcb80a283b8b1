-- A portion with a Cut by a key that was told, and a gift beside it.
use Rattle.std.specs.Prelude.{ℕ, true, false, [], ◌∷◌}
use Rattle.me_terms.specs.Context.{Context}
use Rattle.me_terms.specs.Outcome.{TreeOutcome}
use Rattle.me_terms.specs.Outcome as outcome
use Rattle.branch_core.specs.Parts.{RecordValue, Cut, Gift}
use Rattle.branch_core.specs.Paths.{Turns, key}
use Rattle.branch_core.specs.Portions.{IsPortion}
use Rattle.branch_core.specs.SearchTree.{SearchTree, Leaf, Node}

-- The leaf left of the root is exhausted, and right of the root there is one more Split.
abbrev pub two_splits : Context → (first second : TreeOutcome) → SearchTree
two_splits context first second = Node (Leaf (outcome.Sat context)) (Node (Leaf first) (Leaf second))

-- The path right of the root, and the right child there.
abbrev pub walked : Turns
walked = true ∷ []

abbrev pub gift : Turns
gift = true ∷ true ∷ []

-- The key that was told, of the exhausted leaf.
abbrev pub told_key : ℕ
told_key = key (false ∷ [])

abbrev pub handed_back : RecordValue
handed_back = record { path = walked; parts = Cut told_key ∷ Gift gift ∷ [] }

-- The walk of the path gave its right child away, was told the key, and dropped the left child; it posted nothing.
abbrev pub SmallPortionIsOne : Type 0
SmallPortionIsOne =
    (list_bound : ℕ) (context : Context) (first second : TreeOutcome)
    → IsPortion list_bound 2 (two_splits context first second) walked (told_key ∷ []) (gift ∷ []) [] handed_back
