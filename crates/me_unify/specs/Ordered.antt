-- An order of the nodes in which each node stands behind what its term is made of.
use Rattle.std.specs.Prelude.{◌≡◌, ℕ, ◌+◌, ◌-◌, ◌<◌, ◌≤◌, ◌≢◌, ◌⊎◌, zero, suc, eqb, ltb, List, length, map, slice_index, slice_get, Option, Some, None, count_by, Vec, if◌then◌else◌}
use Rattle.std.specs.declared.alloc.Global.{Global}
use Rattle.me_terms.specs.Terms.{TermValue, Var, App, arguments_of, height}
use Rattle.me_unify.specs.declared.links.Links.{Links}
use Rattle.me_unify.specs.declared.node.Node.{Node}
use Rattle.me_unify.specs.declared.node.Node.TheVariants as node
use Rattle.me_terms.specs.Substitutions.{Family}
use Rattle.me_unify.specs.Linked.{NONE, IsForest, Colouring, AreNodes, AreClosed}

-- What is done, stands before n.
abbrev pub IsDoneBefore : List ℕ → ℕ → ℕ → Type 0
IsDoneBefore order n y = (2 ≤ slice_index order y) × (slice_index order y < n)

-- What a node leads to stands before n: the node that it is linked to, or else its arguments.
pub record LeadsBefore (nodes : List Node) (l : Links) (order : List ℕ) (n x : ℕ) : Type 0 where
  pub linked : slice_index l.place.items x ≢ NONE → IsDoneBefore order n (slice_index l.tos.items (slice_index l.place.items x))
  pub apps : slice_index l.place.items x ≡ NONE → (f : ℕ) (args : Vec ℕ Global) → slice_get nodes x ≡ Some (node.App f args)
      → (i : ℕ) → i < length args.items → IsDoneBefore order n (slice_index args.items i)

-- Marks: 0 for a node that was not seen, 1 for one that is open, and else the place of a node that is done.
-- The list has the nodes that are done by their places.
pub record IsOrdered (nodes : List Node) (l : Links) (order : List ℕ) (count : ℕ) (list : List ℕ) : Type 0 where
  pub sized : length order ≡ length nodes
  pub above : 2 ≤ count
  pub room : count + count_by (λ m. ltb m 2) order ≤ length order + 2
  pub below : (x : ℕ) → x < length order → 2 ≤ slice_index order x → slice_index order x < count
  pub done : (x : ℕ) → x < length order → 2 ≤ slice_index order x → LeadsBefore nodes l order (slice_index order x) x
  pub listed_size : length list ≡ length nodes
  pub listed : (x : ℕ) → x < length order → 2 ≤ slice_index order x → slice_index list (slice_index order x - 2) ≡ x
  pub placed : (p : ℕ) → p + 2 < count → (slice_index list p < length order) × (slice_index order (slice_index list p) ≡ p + 2)

-- The node's term is higher, or as high and the node is linked earlier.
abbrev pub IsHigher : Links → Colouring → ℕ → ℕ → Type 0
IsHigher l h x y =
    (height (h y) < height (h x)) ⊎ ((height (h y) ≡ height (h x)) × (slice_index l.place.items x < slice_index l.place.items y))

-- Every link is followed, and the ranks, all below the limit, fall from each node to what it leads to.
pub record IsSettled (nodes : List Node) (l : Links) (rank : ℕ → ℕ) (limit : ℕ) : Type 0 where
  pub forest : IsForest l
  pub sized : length nodes ≡ length l.place.items
  pub fit : AreNodes nodes
  pub closed : AreClosed nodes l (length l.froms.items)
  pub below : (x : ℕ) → x < length nodes → rank x < limit
  pub linked : (x : ℕ) → x < length nodes → slice_index l.place.items x ≢ NONE → rank (slice_index l.tos.items (slice_index l.place.items x)) < rank x
  pub apps : (x : ℕ) → x < length nodes → slice_index l.place.items x ≡ NONE → (f : ℕ) (args : Vec ℕ Global) → slice_get nodes x ≡ Some (node.App f args)
      → (i : ℕ) → i < length args.items → rank (slice_index args.items i) < rank x

abbrev pub HasOrder : List Node → Links → Type 0
HasOrder nodes l = (rank : ℕ → ℕ) × ((limit : ℕ) × IsSettled nodes l rank limit)

-- The ranks, all below the limit, fall from each node to what it leads to, but where the node's link is the one of number mark or a later one.
pub record FallsBefore (nodes : List Node) (l : Links) (mark : ℕ) (rank : ℕ → ℕ) (limit : ℕ) : Type 0 where
  pub below : (x : ℕ) → x < length nodes → rank x < limit
  pub linked : (x : ℕ) → x < length nodes → slice_index l.place.items x < mark → rank (slice_index l.tos.items (slice_index l.place.items x)) < rank x
  pub apps : (x : ℕ) → x < length nodes → slice_index l.place.items x ≡ NONE → (f : ℕ) (args : Vec ℕ Global) → slice_get nodes x ≡ Some (node.App f args)
      → (i : ℕ) → i < length args.items → rank (slice_index args.items i) < rank x

abbrev pub HasOrderBefore : List Node → Links → ℕ → Type 0
HasOrderBefore nodes l mark = (rank : ℕ → ℕ) × ((limit : ℕ) × FallsBefore nodes l mark rank limit)

-- The nodes in the order of the ranks, which are their places in the list.
pub record IsSequence (nodes : List Node) (l : Links) (list : List ℕ) : Type 0 where
  pub rank : ℕ → ℕ
  pub settled : IsSettled nodes l rank (length list)
  pub listed : (x : ℕ) → x < length nodes → slice_index list (rank x) ≡ x
  pub placed : (p : ℕ) → p < length list → (slice_index list p < length nodes) × (rank (slice_index list p) ≡ p)

-- ---- the terms of nodes
-- What stands at the top, over the terms of the nodes below.
abbrev pub of_node : Family → Colouring → Option Node → TermValue
of_node t below None = Var 0
of_node t below (Some (node.Var space var)) = t space var
of_node t below (Some (node.App f args)) = App f (arguments_of (map below args.items))

-- A node's term under a family, k steps deep.
abbrev pub written_out : List Node → Family → ℕ → Colouring
written_out nodes t zero x = Var 0
written_out nodes t (suc k) x = of_node t (written_out nodes t k) (slice_get nodes x)

-- A node's term, k steps deep, where linked nodes have one term and the family names the variables that are left.
abbrev pub solved : List Node → Links → Family → ℕ → Colouring
solved nodes l t zero x = Var 0
solved nodes l t (suc k) x =
    if (eqb (slice_index l.place.items x) NONE) then of_node t (solved nodes l t k) (slice_get nodes x)
    else solved nodes l t k (slice_index l.tos.items (slice_index l.place.items x))

-- A node's term under a family.
abbrev pub colour : List Node → Family → Colouring
colour nodes t x = written_out nodes t (suc x) x
