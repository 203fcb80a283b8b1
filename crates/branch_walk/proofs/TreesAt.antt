-- The tree of a grown context stands in the tree of the whole search, where its turns lead.
use Rattle.std.proofs.Common.{◌≡◌, true, false, [], ◌∷◌, ◌++◌, Some, refl, sym, subst, ap, ◌∙◌}
use Rattle.std.proofs.lemmas.Option.{same_Some}
use Rattle.me_terms.specs.Values.{ProblemValue}
use Rattle.me_terms.specs.Context.{Context}
use Rattle.me_terms.specs.Grown.{IsGrown, start, started, asserted, went_left, went_right}
use Rattle.me_terms.specs.declared.bounds.Bounds.{Bounds}
use Rattle.branch_core.specs.Paths.{Turns}
use Rattle.branch_core.specs.SearchTree.{SearchTree, Leaf, Node, IsSearchTree, subtree}
use Rattle.branch_walk.specs.Jobs.{turns_taken}
use Rattle.branch_walk.proofs.TreesBelow.{assert_tree, split_tree}
use Rattle.branch_walk.proofs.TurnsTaken.{turns_assert, turns_left, turns_right}

children_at : (search left right : SearchTree) (t : Turns) → subtree search t ≡ Some (Node left right) → (subtree search (t ++ false ∷ []) ≡ Some left) × (subtree search (t ++ true ∷ []) ≡ Some right)
children_at search left right [] h =
    let P : SearchTree → Type 0 = λ s. (subtree s (false ∷ []) ≡ Some left) × (subtree s (true ∷ []) ≡ Some right) in
    subst P (sym (same_Some search (Node left right) h)) (refl, refl)
children_at (Leaf o) left right (b ∷ t) h = cc h
children_at (Node a b) left right (false ∷ t) h = children_at a left right t h
children_at (Node a b) left right (true ∷ t) h = children_at b left right t h

-- the tree of the context, in the tree of the search
pub record IsAt (problem : ProblemValue) (bounds : Bounds) (search : SearchTree) (context : Context) : Type 0 where
  pub own : SearchTree
  pub tree : IsSearchTree problem bounds context own
  pub at : subtree search (turns_taken context) ≡ Some own

pub tree_at : {problem : ProblemValue} {bounds : Bounds} {context : Context} → IsGrown problem bounds context → (search : SearchTree) → IsSearchTree problem bounds (start bounds.start) search → IsAt problem bounds search context
tree_at started search tree = record { own = search; tree = tree; at = refl }
tree_at {problem} {bounds} (asserted {context = context} {e = e} h next) search tree =
    let up = tree_at h search tree in
    record {
      own = up.own;
      tree = assert_tree problem bounds context e h next up.own up.tree;
      at = ap (subtree search) (turns_assert problem bounds context e next) ∙ up.at;
    }
tree_at {problem} {bounds} (went_left {context = context} {l = l} {kind = kind} h next) search tree =
    let up = tree_at h search tree in
    let children = split_tree problem bounds context l kind h next up.own up.tree in
    let there = children_at search children.left children.right (turns_taken context) (up.at ∙ ap (λ (s : SearchTree). Some s) children.is) in
    record { own = children.left; tree = children.left_tree; at = ap (subtree search) (turns_left context l kind) ∙ there.0 }
tree_at {problem} {bounds} (went_right {context = context} {l = l} {kind = kind} h next) search tree =
    let up = tree_at h search tree in
    let children = split_tree problem bounds context l kind h next up.own up.tree in
    let there = children_at search children.left children.right (turns_taken context) (up.at ∙ ap (λ (s : SearchTree). Some s) children.is) in
    record { own = children.right; tree = children.right_tree; at = ap (subtree search) (turns_right context l kind) ∙ there.1 }
