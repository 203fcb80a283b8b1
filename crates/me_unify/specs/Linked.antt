-- Links between nodes: each node is linked at most once, and to a node that is not linked yet.
use Rattle.std.specs.Prelude.{◌≡◌, ℕ, ◌+◌, ◌<◌, ◌≤◌, ◌≢◌, eqb, List, length, map, slice_index, slice_get, Some, count_by}
use Rattle.me_terms.specs.Terms.{TermValue, App, Arguments, arguments_of}
use Rattle.me_terms.specs.Substitutions.{Family}
use Rattle.me_unify.specs.declared.links.Links.{Links}
use Rattle.me_unify.specs.declared.node.Node.{Node}
use Rattle.me_unify.specs.declared.node.Node.TheVariants as node

-- where a node that is not linked stands
abbrev pub NONE : ℕ
NONE = 0xffff_ffff_ffff_ffff

-- A linked node: its link, and that the node that it goes to is linked later or not at all.
pub record IsLinked (place froms tos : List ℕ) (x : ℕ) : Type 0 where
  pub stands : slice_index place x < length froms
  pub from : slice_index froms (slice_index place x) ≡ x
  pub later : slice_index place x < slice_index place (slice_index tos (slice_index place x))

pub record AreLinks (place froms tos : List ℕ) : Type 0 where
  pub small : length place ≤ NONE
  pub total : count_by (λ p. eqb p NONE) place + length froms ≡ length place
  pub paired : length tos ≡ length froms
  pub from_within : (k : ℕ) → k < length froms → slice_index froms k < length place
  pub to_within : (k : ℕ) → k < length froms → slice_index tos k < length place
  pub linked : (x : ℕ) → x < length place → slice_index place x ≢ NONE → IsLinked place froms tos x
  pub back : (k : ℕ) → k < length froms → slice_index place (slice_index froms k) ≡ k

abbrev pub IsForest : Links → Type 0
IsForest l = AreLinks l.place.items l.froms.items l.tos.items

-- A term for each node.
abbrev pub Colouring : Type 0
Colouring = ℕ → TermValue

-- Linked nodes have the same term.
abbrev pub Respects : Links → Colouring → Type 0
Respects l h = (k : ℕ) → k < length l.froms.items → h (slice_index l.froms.items k) ≡ h (slice_index l.tos.items k)

-- What the links say of two nodes.
abbrev pub Alike : Links → ℕ → ℕ → Type 0
Alike l x y = (h : Colouring) → Respects l h → h x ≡ h y

abbrev pub coloured : Colouring → List ℕ → Arguments
coloured h xs = arguments_of (map h xs)

-- The term of a node is what the family makes of it.
abbrev pub IsTermOf : Family → Colouring → ℕ → Node → Type 0
IsTermOf t h x (node.Var space var) = h x ≡ t space var
IsTermOf t h x (node.App f args) = h x ≡ App f (coloured h args.items)

abbrev pub IsColoured : List Node → Family → Colouring → Type 0
IsColoured nodes t h = (x : ℕ) (n : Node) → slice_get nodes x ≡ Some n → IsTermOf t h x n

-- The arguments stand before n.
abbrev pub ArgumentsStandBefore : ℕ → Node → Type 0
ArgumentsStandBefore n (node.Var space var) = Unit {0}
ArgumentsStandBefore n (node.App f args) = (k : ℕ) → k < length args.items → slice_index args.items k < n

-- Arguments stand before what they are arguments of.
abbrev pub AreNodes : List Node → Type 0
AreNodes nodes = (x : ℕ) (n : Node) → slice_get nodes x ≡ Some n → ArgumentsStandBefore x n

-- A function is linked to a function only.
abbrev pub IsUnder : Node → Node → Type 0
IsUnder (node.Var space var) n = Unit {0}
IsUnder (node.App f args) (node.Var space var) = ⊥
IsUnder (node.App f args) (node.App g others) = Unit {0}

abbrev pub AreDirectedAt : List Node → List ℕ → List ℕ → Type 0
AreDirectedAt nodes froms tos =
    (i : ℕ) (m n : Node) → 0 ≤ i → i < length froms → slice_get nodes (slice_index froms i) ≡ Some m → slice_get nodes (slice_index tos i) ≡ Some n → IsUnder m n

abbrev pub AreDirected : List Node → Links → Type 0
AreDirected nodes l = AreDirectedAt nodes l.froms.items l.tos.items

-- The links stand, and more behind them.
pub record IsLonger (l m : Links) : Type 0 where
  pub longer : length l.froms.items ≤ length m.froms.items
  pub froms : (k : ℕ) → k < length l.froms.items → slice_index m.froms.items k ≡ slice_index l.froms.items k
  pub tos : (k : ℕ) → k < length l.froms.items → slice_index m.tos.items k ≡ slice_index l.tos.items k

-- Two functions with equal symbols and arguments that the links say are equal.
pub record AreJoined (l : Links) (f g : ℕ) (xs ys : List ℕ) : Type 0 where
  pub symbol : f ≡ g
  pub lengths : length xs ≡ length ys
  pub each : (i : ℕ) → i < length xs → Alike l (slice_index xs i) (slice_index ys i)

abbrev pub ArgumentsAreAlike : Links → Node → Node → Type 0
ArgumentsAreAlike l (node.Var space var) n = Unit {0}
ArgumentsAreAlike l (node.App f args) (node.Var space var) = ⊥
ArgumentsAreAlike l (node.App f args) (node.App g others) = AreJoined l f g args.items others.items

-- The first n links have been followed into the arguments.
abbrev pub AreClosed : List Node → Links → ℕ → Type 0
AreClosed nodes l n =
    (k : ℕ) (p q : Node) → k < n → slice_get nodes (slice_index l.froms.items k) ≡ Some p → slice_get nodes (slice_index l.tos.items k) ≡ Some q → ArgumentsAreAlike l p q

-- the same of two nodes
abbrev pub ArePairClosed : List Node → Links → ℕ → ℕ → Type 0
ArePairClosed nodes l a b =
    (p q : Node) → slice_get nodes a ≡ Some p → slice_get nodes b ≡ Some q → IsUnder p q → ArgumentsAreAlike l p q
