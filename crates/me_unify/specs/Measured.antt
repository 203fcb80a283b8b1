-- What is counted of terms, and of the terms of nodes.
use Rattle.std.specs.Prelude.{◌≡◌, ℕ, ◌+◌, ◌<◌, ◌≢◌, List, length, slice_index, slice_get, Some, Vec}
use Rattle.std.specs.declared.alloc.Global.{Global}
use Rattle.me_terms.specs.Terms as tree
use Rattle.me_terms.specs.Terms.{TermValue, Arguments, AtomValue}
use Rattle.me_terms.specs.Variables.{weight, weights, depth, depths, is_ground, are_ground}
use Rattle.me_terms.specs.Measures.{capped}
use Rattle.me_unify.specs.declared.links.Links.{Links}
use Rattle.me_unify.specs.declared.node.Node.{Node}
use Rattle.me_unify.specs.declared.node.Node.TheVariants.{Var, App}
use Rattle.me_unify.specs.declared.measure.Measure.{Measure}
use Rattle.me_unify.specs.Linked.{NONE, Colouring, coloured}

pub record IsMeasure (t : TermValue) (m : Measure) : Type 0 where
  pub weight : m.weight ≡ capped (weight t)
  pub depth : m.depth ≡ capped (depth t)
  pub ground : m.ground ≡ is_ground t

-- of a list of terms: the sum of the weights, the greatest depth, and whether all are ground
pub record AreMeasured (ts : Arguments) (m : Measure) : Type 0 where
  pub weight : m.weight ≡ capped (weights ts)
  pub depth : m.depth ≡ capped (depths ts)
  pub ground : m.ground ≡ are_ground ts

-- The predicate counts in the weight, and not in the depth.
pub record IsAtomMeasure (a : AtomValue) (m : Measure) : Type 0 where
  pub weight : m.weight ≡ capped (1 + weights a.args)
  pub depth : m.depth ≡ capped (depths a.args)
  pub ground : m.ground ≡ are_ground a.args

-- The terms are those of the links, and what is left are variables.
pub record IsReading (nodes : List Node) (l : Links) (h : Colouring) : Type 0 where
  pub linked : (x : ℕ) → x < length nodes → slice_index l.place.items x ≢ NONE → h x ≡ h (slice_index l.tos.items (slice_index l.place.items x))
  pub vars : (x s v : ℕ) → slice_index l.place.items x ≡ NONE → slice_get nodes x ≡ Some (Var s v) → (y : ℕ) × (h x ≡ tree.Var y)
  pub apps : (x f : ℕ) (args : Vec ℕ Global) → slice_index l.place.items x ≡ NONE → slice_get nodes x ≡ Some (App f args) → h x ≡ tree.App f (coloured h args.items)

-- The measure that is held for a node is that of its term.
abbrev pub IsHeld : Colouring → List Measure → ℕ → Type 0
IsHeld h measures x = (m : Measure) → slice_get measures x ≡ Some m → IsMeasure (h x) m

-- What a node leads to is held.
pub record IsHeldBelow (nodes : List Node) (l : Links) (h : Colouring) (measures : List Measure) (x : ℕ) : Type 0 where
  pub linked : slice_index l.place.items x ≢ NONE → IsHeld h measures (slice_index l.tos.items (slice_index l.place.items x))
  pub apps : slice_index l.place.items x ≡ NONE → (f : ℕ) (args : Vec ℕ Global) → slice_get nodes x ≡ Some (App f args) → (i : ℕ) → i < length args.items → IsHeld h measures (slice_index args.items i)
