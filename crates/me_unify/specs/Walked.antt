-- A walk in depth over the nodes: what is open, and how far it has come.
use Rattle.std.specs.Prelude.{◌≡◌, ℕ, ◌<◌, ◌≤◌, ◌≢◌, List, length, slice_index, slice_get, Some, Vec}
use Rattle.std.specs.declared.alloc.Global.{Global}
use Rattle.me_terms.specs.Substitutions.{Family}
use Rattle.me_unify.specs.declared.links.Links.{Links}
use Rattle.me_unify.specs.declared.node.Node.{Node}
use Rattle.me_unify.specs.declared.node.Node.TheVariants as node
use Rattle.me_unify.specs.declared.walk.Walk.{Walk}
use Rattle.me_unify.specs.Linked.{Colouring, IsColoured, Respects}
use Rattle.me_unify.specs.Ordered.{IsOrdered, IsHigher}

-- Of each node as many arguments are done as the list says.
abbrev pub AreReached : List Node → List ℕ → List ℕ → Type 0
AreReached nodes order reached =
    (x f : ℕ) (args : Vec ℕ Global) → slice_get nodes x ≡ Some (node.App f args)
    → (i : ℕ) → i < slice_index reached x → i < length args.items → 2 ≤ slice_index order (slice_index args.items i)

-- What is done, stands before n.
abbrev pub AreBefore : List ℕ → ℕ → Type 0
AreBefore order n = (x : ℕ) → x < length order → 2 ≤ slice_index order x → slice_index order x < n

-- Wherever linked nodes have one term, the first node's is over the second's.
abbrev pub IsAbove : List Node → Links → ℕ → ℕ → Type 0
IsAbove nodes l x y = (t : Family) (h : Colouring) → IsColoured nodes t h → Respects l h → IsHigher l h x y

-- The list has the nodes that are open, each once, and each is above all that are behind it.
pub record AreOpen (nodes : List Node) (l : Links) (order : List ℕ) (open_ones : List ℕ) : Type 0 where
  pub within : (i : ℕ) → i < length open_ones → slice_index open_ones i < length nodes
  pub marked : (i : ℕ) → i < length open_ones → slice_index order (slice_index open_ones i) ≡ 1
  pub apart : (i j : ℕ) → i < j → j < length open_ones → slice_index open_ones i ≢ slice_index open_ones j
  pub listed : (x : ℕ) → x < length nodes → slice_index order x ≡ 1 → (i : ℕ) × ((i < length open_ones) × (slice_index open_ones i ≡ x))
  pub falling : (i j : ℕ) → i < j → j < length open_ones → IsAbove nodes l (slice_index open_ones i) (slice_index open_ones j)

-- A walk that has come so far.
pub record IsWalk (nodes : List Node) (l : Links) (w : Walk) : Type 0 where
  pub ordered : IsOrdered nodes l w.order.items w.count w.list.items
  pub sized : length w.reached.items ≡ length nodes
  pub reached : AreReached nodes w.order.items w.reached.items
  pub opened : AreOpen nodes l w.order.items w.stack.items
