-- What nodes and links say of the equations that were added, now and as they were before each.
use Rattle.std.specs.Prelude.{◌≡◌, ℕ, ◌<◌, ◌≤◌, ◌↔◌, List, length, map, take, slice_index, slice_get, Some}
use Rattle.me_terms.specs.Terms.{TermValue, Var, App, Nil, AtomValue}
use Rattle.me_terms.specs.Substitutions.{Family, apply_arguments}
use Rattle.me_unify.specs.declared.links.Links.{Links}
use Rattle.me_unify.specs.declared.node.Node.{Node}
use Rattle.me_unify.specs.declared.step.Step.{Step}
use Rattle.me_unify.specs.declared.step.Sides.{Sides}
use Rattle.me_unify.specs.Linked.{Colouring, IsColoured, Respects, AreClosed, IsLonger, IsTermOf}
use Rattle.me_unify.specs.Ordered.{colour, HasOrder}
use Rattle.me_unify.specs.Nodes.{IsArena, KeepsNodes}
use Rattle.me_unify.specs.Equations.{Equation, SolvesOne, SolvesAll}

-- Only the first m links are left.
pub record IsCutBack (l : Links) (m : ℕ) (c : Links) : Type 0 where
  pub less : IsLonger c l
  pub size : length c.froms.items ≡ m

-- The first m links speak of the first n nodes, and by themselves say all of arguments.
pub record IsMark (nodes : List Node) (l : Links) (n m : ℕ) : Type 0 where
  pub nodes_within : n ≤ length nodes
  pub links_within : m ≤ length l.froms.items
  pub from_within : (k : ℕ) → k < m → slice_index l.froms.items k < n
  pub to_within : (k : ℕ) → k < m → slice_index l.tos.items k < n
  pub closed : (c : Links) → IsCutBack l m c → AreClosed nodes c m

-- The terms of the first n nodes are what the family makes of them.
abbrev pub FitsFirst : List Node → ℕ → Family → Colouring → Type 0
FitsFirst nodes n t h = (x : ℕ) (v : Node) → x < n → slice_get nodes x ≡ Some v → IsTermOf t h x v

-- At a mark the links say what the equations say.
pub record IsStage (nodes : List Node) (l : Links) (n m : ℕ) (equations : List Equation) : Type 0 where
  pub mark : IsMark nodes l n m
  pub same : (c : Links) → IsCutBack l m c → (t : Family) (h : Colouring) → FitsFirst nodes n t h → Respects c h ↔ SolvesAll t equations

-- ---- an equation more
-- The new nodes and links say what the old ones said, and the equation.
pub record IsPosed (nodes : List Node) (l : Links) (new : List Node) (m : Links) (e : Equation) (s : Sides) : Type 0 where
  pub grown : KeepsNodes nodes new
  pub more : IsLonger l m
  pub order : HasOrder new m
  pub left_within : s.left < length new
  pub right_within : s.right < length new
  pub left : (t : Family) (h : Colouring) → IsColoured new t h → h s.left ≡ App e.left.pred (apply_arguments (t e.left_space) e.left.args)
  pub right : (t : Family) (h : Colouring) → IsColoured new t h → h s.right ≡ App e.right.pred (apply_arguments (t e.right_space) e.right.args)
  pub same : (t : Family) (h : Colouring) → IsColoured new t h → (Respects l h × (h s.left ≡ h s.right)) ↔ Respects m h

-- No family that the links allow solves the equation.
abbrev pub AreApart : List Node → Links → Equation → Type 0
AreApart nodes l e = (t : Family) (h : Colouring) → IsColoured nodes t h → Respects l h → ¬ SolvesOne t e

-- The nodes and the links are those that stood.
pub record IsBack (nodes : List Node) (l : Links) (new : List Node) (m : Links) : Type 0 where
  pub nodes_are : new ≡ nodes
  pub more : IsLonger l m
  pub less : IsLonger m l

-- ---- the equations
-- a term's symbol and arguments as an atom
abbrev pub atom_of : TermValue → AtomValue
atom_of (Var x) = record { pred = 0; args = Nil }
atom_of (App f ts) = record { pred = f; args = ts }

-- each variable as it is written in its space
abbrev pub as_written : Family
as_written space x = Var x

abbrev pub equation_of : List Node → Step → Equation
equation_of nodes s = record {
  left_space = s.left_space;
  left = atom_of (colour nodes as_written s.left);
  right_space = s.right_space;
  right = atom_of (colour nodes as_written s.right);
}

abbrev pub step_equations : List Node → List Step → List Equation
step_equations nodes steps = map (equation_of nodes) steps

-- The step's nodes, and what stood before it, are within the first n nodes and m links.
pub record IsStepWithin (s : Step) (n m : ℕ) : Type 0 where
  pub left : s.left < n
  pub right : s.right < n
  pub nodes : s.nodes ≤ n
  pub links : s.links ≤ m

abbrev pub IsSolved : List Node → Links → Type 0
IsSolved nodes l = (u : Family) × ((h : Colouring) × (IsColoured nodes u h × Respects l h))

-- The links have a solution, and say what the equations say: all of them, and those before each step.
pub record AreBound (nodes : List Node) (l : Links) (steps : List Step) : Type 0 where
  pub arena : IsArena nodes l
  pub solution : IsSolved nodes l
  pub last : IsStage nodes l (length nodes) (length l.froms.items) (step_equations nodes steps)
  pub before : (k : ℕ) (s : Step) → slice_get steps k ≡ Some s → IsStage nodes l s.nodes s.links (take k (step_equations nodes steps))
  pub within : (k : ℕ) (s : Step) → slice_get steps k ≡ Some s → IsStepWithin s (length nodes) (length l.froms.items)
  pub rising : (i k : ℕ) (r s : Step) → i < k → slice_get steps i ≡ Some r → slice_get steps k ≡ Some s → IsStepWithin r s.nodes s.links
