-- Laws of codes and keys, as contracts state them.
use Rattle.std.specs.Prelude.{◌≡◌, ◌<◌, Some}
use Rattle.me_terms.specs.Outcome.{TreeOutcome}
use Rattle.branch_core.specs.Paths.{Turns, code, key, IsLeftOf}
use Rattle.branch_core.specs.SearchTree.{SearchTree, Leaf, subtree}

-- Different paths have different codes.
abbrev pub CodesAreInjective : Type 0
CodesAreInjective = (path other : Turns) → code path ≡ code other → path ≡ other

-- A leaf whose key is smaller than a node's stands left of the node.
abbrev pub KeysOrderLeaves : Type 0
KeysOrderLeaves = (search : SearchTree) (leaf node : Turns) (outcome : TreeOutcome) (below : SearchTree) → subtree search leaf ≡ Some (Leaf outcome) → subtree search node ≡ Some below → key leaf < key node → IsLeftOf leaf node
