-- The tree of a search from a context, and its outcome.
use Rattle.std.specs.Prelude.{◌≡◌, ℕ, List}
use Rattle.me_terms.specs.Values.{ProblemValue, EntryValue, InstanceValue}
use Rattle.me_terms.specs.Context.{Context, add}
use Rattle.me_terms.specs.Next.{IsNext, Close, Assert, Split, Exhausted, Bounded}
use Rattle.me_terms.specs.FirstOccurrences.{joined}
use Rattle.me_terms.specs.LeafList.{IsLeafList}
use Rattle.me_terms.specs.Grown.{left_of, right_of}
use Rattle.me_terms.specs.declared.bounds.Bound.{Bound}
use Rattle.me_terms.specs.declared.bounds.Bounds.{Bounds}
use Rattle.me_terms.specs.declared.entry.Kind.{Kind}
use Rattle.me_terms.specs.declared.atom.Literal.{Literal}

-- What a tree leads to: it is closed, with its list; or it has an exhausted context; or a bound was met.
pub data TreeOutcome : Type 0 where
  Closed : List InstanceValue → TreeOutcome
  Sat : Context → TreeOutcome
  Met : Bound → TreeOutcome

-- A node's outcome, from its left and its right tree's: the left's Sat, else the right's, else the left's bound, else the right's, else Closed with both lists.
abbrev pub both : TreeOutcome → TreeOutcome → TreeOutcome
both (Sat context) right = Sat context
both (Closed list) (Sat context) = Sat context
both (Met b) (Sat context) = Sat context
both (Met b) (Closed list) = Met b
both (Met b) (Met c) = Met b
both (Closed list) (Met c) = Met c
both (Closed list) (Closed more) = Closed (joined list more)

-- The outcome of the tree of a context. A Close, an exhausted context and a bound make a leaf; an Assert goes on with its entry; a Split makes a node.
pub data HasOutcome (problem : ProblemValue) (bounds : Bounds) : Context → TreeOutcome → Type 0 where
  closes : {context : Context} {c : ℕ} {tuple : List ℕ} {list : List InstanceValue} → IsNext problem bounds context (Close c tuple) → IsLeafList problem context c tuple list → HasOutcome problem bounds context (Closed list)
  is_exhausted : {context : Context} → IsNext problem bounds context Exhausted → HasOutcome problem bounds context (Sat context)
  is_bounded : {context : Context} {b : Bound} → IsNext problem bounds context (Bounded b) → HasOutcome problem bounds context (Met b)
  asserts : {context : Context} {e : EntryValue} {outcome : TreeOutcome} → IsNext problem bounds context (Assert e) → HasOutcome problem bounds (add context e) outcome → HasOutcome problem bounds context outcome
  splits : {context : Context} {l : Literal} {kind : Kind} {left right outcome : TreeOutcome} → IsNext problem bounds context (Split l kind) → HasOutcome problem bounds (left_of context l kind) left → HasOutcome problem bounds (right_of context l kind) right → outcome ≡ both left right → HasOutcome problem bounds context outcome
