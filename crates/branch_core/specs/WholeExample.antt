-- An example of whole records.
use Rattle.std.specs.Prelude.{true, false, List, [], ◌∷◌}
use Rattle.me_terms.specs.Outcome.{TreeOutcome}
use Rattle.me_terms.specs.Context.{Context}
use Rattle.branch_core.specs.Whole.{AreWhole}
use Rattle.branch_core.specs.StandsFor.{Account}
use Rattle.branch_core.specs.Pieces.{Sat, Gift, NoMemory}
use Rattle.me_terms.specs.Outcome as outcome
use Rattle.branch_core.specs.SearchTree.{Leaf, Node}

-- An example: the left leaf is exhausted, the right child was given away, and its record lacks memory.
abbrev pub left_and_gift : Context → List Account
left_and_gift context =
    record { path = []; pieces = Sat (false ∷ []) context ∷ Gift (true ∷ []) ∷ [] }
    ∷ record { path = true ∷ []; pieces = NoMemory ∷ [] } ∷ []

-- They are whole, whatever the right leaf came to.
abbrev pub LeftAndGiftAreWhole : Type 0
LeftAndGiftAreWhole = (context : Context) (other : TreeOutcome) → AreWhole (Node (Leaf (outcome.Sat context)) (Leaf other)) (left_and_gift context)
