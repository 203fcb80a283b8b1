-- The tree of a search with the Asserts left out: its leaves' outcomes, and its Splits.
use Rattle.std.specs.Prelude.{◌≡◌, ℕ, true, false, List, [], ◌∷◌, Option, Some, None}
use Rattle.me_terms.specs.Values.{ProblemValue, EntryValue, InstanceValue}
use Rattle.me_terms.specs.Context.{Context, add}
use Rattle.me_terms.specs.Next.{IsNext, Close, Assert, Split, Exhausted, Bounded}
use Rattle.me_terms.specs.LeafList.{IsLeafList}
use Rattle.me_terms.specs.FirstOccurrences.{first_occurrences}
use Rattle.me_terms.specs.Grown.{left_of, right_of}
use Rattle.me_terms.specs.Outcome.{TreeOutcome, Closed, Sat, Met, both}
use Rattle.me_terms.specs.declared.bounds.Bound.{Bound}
use Rattle.me_terms.specs.declared.bounds.Bounds.{Bounds}
use Rattle.me_terms.specs.declared.entry.Kind.{Kind}
use Rattle.me_terms.specs.declared.atom.Literal.{Literal}
use Rattle.branch_core.specs.Paths.{Turns}

-- A tree has an outcome at each leaf, and at each node a left and a right child.
pub data SearchTree : Type 0 where
  Leaf : TreeOutcome → SearchTree
  Node : SearchTree → SearchTree → SearchTree

-- The tree of a context.
pub data IsSearchTree (problem : ProblemValue) (bounds : Bounds) : Context → SearchTree → Type 0 where
  closes : {context : Context} {c : ℕ} {tuple : List ℕ} {list : List InstanceValue} → IsNext problem bounds context (Close c tuple) → IsLeafList problem context c tuple list → IsSearchTree problem bounds context (Leaf (Closed list))
  is_exhausted : {context : Context} → IsNext problem bounds context Exhausted → IsSearchTree problem bounds context (Leaf (Sat context))
  is_bounded : {context : Context} {b : Bound} → IsNext problem bounds context (Bounded b) → IsSearchTree problem bounds context (Leaf (Met b))
  asserts : {context : Context} {e : EntryValue} {search : SearchTree} → IsNext problem bounds context (Assert e) → IsSearchTree problem bounds (add context e) search → IsSearchTree problem bounds context search
  splits : {context : Context} {l : Literal} {kind : Kind} {left right : SearchTree} → IsNext problem bounds context (Split l kind) → IsSearchTree problem bounds (left_of context l kind) left → IsSearchTree problem bounds (right_of context l kind) right → IsSearchTree problem bounds context (Node left right)

-- The outcome of the whole tree.
abbrev pub outcome_of : SearchTree → TreeOutcome
outcome_of (Leaf outcome) = outcome
outcome_of (Node left right) = both (outcome_of left) (outcome_of right)

-- The subtree to which the turns lead.
abbrev pub subtree : SearchTree → Turns → Option SearchTree
subtree search [] = Some search
subtree (Leaf outcome) (turn ∷ turns) = None
subtree (Node left right) (false ∷ turns) = subtree left turns
subtree (Node left right) (true ∷ turns) = subtree right turns

-- A list has each of its instances once.
abbrev pub EachOnce : List InstanceValue → Type 0
EachOnce list = first_occurrences list ≡ list

-- The list of a closed outcome has each of its instances once.
abbrev pub ListsOnce : TreeOutcome → Type 0
ListsOnce (Closed list) = EachOnce list
ListsOnce (Sat context) = Unit {0}
ListsOnce (Met b) = Unit {0}

-- The list of each closed leaf has each of its instances once.
abbrev pub LeavesListOnce : SearchTree → Type 0
LeavesListOnce (Leaf outcome) = ListsOnce outcome
LeavesListOnce (Node left right) = LeavesListOnce left × LeavesListOnce right
