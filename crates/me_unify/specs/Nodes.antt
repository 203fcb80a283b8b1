-- The nodes and the links that a table of bindings holds.
use Rattle.std.specs.Prelude.{◌≡◌, ℕ, List, length, slice_get, Some}
use Rattle.me_unify.specs.declared.links.Links.{Links}
use Rattle.me_unify.specs.declared.node.Node.{Node}
use Rattle.me_unify.specs.declared.node.Node.TheVariants.{Var, App}
use Rattle.me_unify.specs.Linked.{IsForest, AreNodes, AreDirected, AreClosed}

-- A variable has one node.
abbrev pub AreSingle : List Node → Type 0
AreSingle nodes = (x y s v : ℕ) → slice_get nodes x ≡ Some (Var s v) → slice_get nodes y ≡ Some (Var s v) → x ≡ y

abbrev pub IsFresh : List Node → Node → Type 0
IsFresh nodes (Var s v) = (x : ℕ) → slice_get nodes x ≡ Some (Var s v) → ⊥
IsFresh nodes (App f args) = Unit {0}

pub record IsArena (nodes : List Node) (l : Links) : Type 0 where
  pub forest : IsForest l
  pub sized : length nodes ≡ length l.place.items
  pub fit : AreNodes nodes
  pub directed : AreDirected nodes l
  pub closed : AreClosed nodes l (length l.froms.items)
  pub single : AreSingle nodes

-- What stood, stands.
abbrev pub KeepsNodes : List Node → List Node → Type 0
KeepsNodes old new = (x : ℕ) (n : Node) → slice_get old x ≡ Some n → slice_get new x ≡ Some n
