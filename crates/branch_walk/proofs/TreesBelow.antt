-- The tree of a grown context, and what it says of the context's next step.
use Rattle.std.proofs.Common.{◌≡◌, sym, subst}
use Rattle.me_terms.specs.Values.{ProblemValue, EntryValue}
use Rattle.me_terms.specs.Context.{Context, add}
use Rattle.me_terms.specs.Next.{Assert, Split, IsNext}
use Rattle.me_terms.specs.Grown.{IsGrown, left_of, right_of, asserted, went_left, went_right}
use Rattle.me_terms.specs.declared.bounds.Bounds.{Bounds}
use Rattle.me_terms.specs.declared.entry.Kind.{Kind}
use Rattle.me_terms.specs.declared.atom.Literal.{Literal}
use Rattle.me_laws_existence.proofs.Outcomes as exists
use Rattle.branch_core.proofs.Trees.{searches_are_trees}
use Rattle.branch_core.specs.SearchTree.{SearchTree, Node, IsSearchTree, asserts, splits}

module _ (problem : ProblemValue) (bounds : Bounds) where
  pub tree_of : (context : Context) → IsGrown problem bounds context → (search : SearchTree) × IsSearchTree problem bounds context search
  tree_of context grown =
      let o = exists.outcome problem bounds context grown in
      let t = (searches_are_trees problem bounds context).has_search o.0 o.1 in
      (t.0, t.1)

  pub same_tree : (context : Context) (own other : SearchTree) → IsSearchTree problem bounds context own → IsSearchTree problem bounds context other → own ≡ other
  same_tree context own other f g = (searches_are_trees problem bounds context).determined own other f g

  pub assert_tree : (context : Context) (e : EntryValue) → IsGrown problem bounds context → IsNext problem bounds context (Assert e) → (own : SearchTree) → IsSearchTree problem bounds context own → IsSearchTree problem bounds (add context e) own
  assert_tree context e grown next own tree =
      let below = tree_of (add context e) (asserted grown next) in
      let P : SearchTree → Type 0 = λ s. IsSearchTree problem bounds (add context e) s in
      subst P (sym (same_tree context own below.0 tree (asserts next below.1))) below.1

  -- the trees of both children
  pub record HasChildren (context : Context) (l : Literal) (kind : Kind) (own : SearchTree) : Type 0 where
    pub left : SearchTree
    pub right : SearchTree
    pub left_tree : IsSearchTree problem bounds (left_of context l kind) left
    pub right_tree : IsSearchTree problem bounds (right_of context l kind) right
    pub is : own ≡ Node left right

  pub split_tree : (context : Context) (l : Literal) (kind : Kind) → IsGrown problem bounds context → IsNext problem bounds context (Split l kind) → (own : SearchTree) → IsSearchTree problem bounds context own → HasChildren context l kind own
  split_tree context l kind grown next own tree =
      let left = tree_of (left_of context l kind) (went_left grown next) in
      let right = tree_of (right_of context l kind) (went_right grown next) in
      record {
        left = left.0;
        right = right.0;
        left_tree = left.1;
        right_tree = right.1;
        is = same_tree context own (Node left.0 right.0) tree (splits next left.1 right.1);
      }
