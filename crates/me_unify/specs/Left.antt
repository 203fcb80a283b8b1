-- What variables and nodes stand for, read off the links. A variable that is left stands for itself.
use Rattle.std.specs.Prelude.{◌≡◌, ℕ, List, length, map, slice_get, Some}
use Rattle.me_laws.specs.Pairing.{pair, apart}
use Rattle.me_terms.specs.Substitutions.{Family}
use Rattle.me_unify.specs.declared.links.Links.{Links}
use Rattle.me_unify.specs.declared.node.Node.{Node}
use Rattle.me_unify.specs.declared.node.Node.TheVariants.{Var}
use Rattle.me_unify.specs.Linked.{Colouring}
use Rattle.me_unify.specs.Nodes.{IsFresh}
use Rattle.me_unify.specs.Ordered.{solved}

-- The terms of nodes. The variables that are left are told apart by their spaces.
abbrev pub term_at : List Node → Links → Colouring
term_at nodes l = solved nodes l apart (length nodes)

-- A variable with a node stands for the node's term, and any other for itself.
pub record IsRead (nodes : List Node) (l : Links) (u : Family) : Type 0 where
  pub nodes_too : (x space var : ℕ) → slice_get nodes x ≡ Some (Var space var) → u space var ≡ term_at nodes l x
  pub others : (space var : ℕ) → IsFresh nodes (Var space var) → u space var ≡ apart space var

-- Variables of spaces, each as one number.
abbrev pub numbers : List (ℕ × ℕ) → List ℕ
numbers variables = map (λ v. pair v.0 v.1) variables
