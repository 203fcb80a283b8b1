-- The tree of a context: an outcome has one, and there is at most one.
use Rattle.std.proofs.Common.{◌≡◌, List, refl, sym, subst, ap, ◌∙◌}
use Rattle.me_terms.specs.Values.{ProblemValue, InstanceValue}
use Rattle.me_terms.specs.Context.{Context, add}
use Rattle.me_terms.specs.LeafList.{IsLeafList}
use Rattle.me_terms.specs.Next.{NextValue, Close, Assert, Split, Exhausted, Bounded, IsNext}
use Rattle.me_terms.specs.Grown.{left_of, right_of}
use Rattle.me_terms.specs.Outcome.{TreeOutcome, Closed, Sat, Met, both, HasOutcome}
use Rattle.me_terms.specs.Outcome as outcome
use Rattle.me_terms.specs.declared.bounds.Bounds.{Bounds}
use Rattle.me_laws.proofs.Determined.{next_unique}
use Rattle.me_laws.proofs.OutcomeDetermined.{leaf_unique}
use Rattle.branch_core.specs.SearchTree.{SearchTree, Leaf, Node, IsSearchTree, closes, is_exhausted, is_bounded, asserts, splits, outcome_of}
use Rattle.branch_core.specs.SearchTreeLaws.{SearchesAreTrees}
use Rattle.branch_core.proofs.Assembly.{search_outcome}

outcome_search : {problem : ProblemValue} {bounds : Bounds} {context : Context} {result : TreeOutcome} → HasOutcome problem bounds context result → (search : SearchTree) × IsSearchTree problem bounds context search × (result ≡ outcome_of search)
outcome_search (outcome.closes {list = list} next leaf) = (Leaf (Closed list), closes next leaf, refl)
outcome_search (outcome.is_exhausted {context = context} next) = (Leaf (Sat context), is_exhausted next, refl)
outcome_search (outcome.is_bounded {b = b} next) = (Leaf (Met b), is_bounded next, refl)
outcome_search (outcome.asserts next later) = let x = outcome_search later in (x.0, asserts next x.1, x.2)
outcome_search (outcome.splits next f g e) =
    let x = outcome_search f in
    let y = outcome_search g in
    (Node x.0 y.0, splits next x.1 y.1, e ∙ (λ i. both (x.2 i) (y.2 i)))

Says : ProblemValue → Bounds → Context → NextValue → SearchTree → Type 0
Says problem bounds context (Close c tuple) search = (list : List InstanceValue) × IsLeafList problem context c tuple list × (search ≡ Leaf (Closed list))
Says problem bounds context (Assert e) search = IsSearchTree problem bounds (add context e) search
Says problem bounds context (Split l kind) search =
    (left : SearchTree) × (right : SearchTree) × IsSearchTree problem bounds (left_of context l kind) left × IsSearchTree problem bounds (right_of context l kind) right × (search ≡ Node left right)
Says problem bounds context Exhausted search = search ≡ Leaf (Sat context)
Says problem bounds context (Bounded b) search = search ≡ Leaf (Met b)

says : {problem : ProblemValue} {bounds : Bounds} {context : Context} {search : SearchTree} → IsSearchTree problem bounds context search → (s : NextValue) × IsNext problem bounds context s × Says problem bounds context s search
unfolding Says
says (closes {c = c} {tuple = tuple} {list = list} next leaf) = (Close c tuple, next, (list, leaf, refl))
says (is_exhausted next) = (Exhausted, next, refl)
says (is_bounded {b = b} next) = (Bounded b, next, refl)
says (asserts {e = e} next later) = (Assert e, next, later)
says (splits {l = l} {kind = kind} {left = left} {right = right} next f g) = (Split l kind, next, (left, right, f, g, refl))

same_step : (problem : ProblemValue) (bounds : Bounds) (context : Context) (s : NextValue) (other : SearchTree) → IsNext problem bounds context s → IsSearchTree problem bounds context other → Says problem bounds context s other
same_step problem bounds context s other next h =
    let x = says h in
    let P : NextValue → Type 0 = λ t. Says problem bounds context t other in
    subst P (next_unique problem bounds context x.0 s x.1 next) x.2

search_unique : {problem : ProblemValue} {bounds : Bounds} {context : Context} {search : SearchTree} → IsSearchTree problem bounds context search → (other : SearchTree) → IsSearchTree problem bounds context other → search ≡ other
unfolding Says
search_unique {problem} {bounds} (closes {context = context} {c = c} {tuple = tuple} {list = list} next leaf) other h =
    let x = same_step problem bounds context (Close c tuple) other next h in
    ap (λ (l : List InstanceValue). Leaf (Closed l)) (leaf_unique problem context c tuple list x.0 leaf x.1) ∙ sym x.2
search_unique {problem} {bounds} (is_exhausted {context = context} next) other h = sym (same_step problem bounds context Exhausted other next h)
search_unique {problem} {bounds} (is_bounded {context = context} {b = b} next) other h = sym (same_step problem bounds context (Bounded b) other next h)
search_unique {problem} {bounds} (asserts {context = context} {e = e} next later) other h =
    search_unique later other (same_step problem bounds context (Assert e) other next h)
search_unique {problem} {bounds} (splits {context = context} {l = l} {kind = kind} next f g) other h =
    let x = same_step problem bounds context (Split l kind) other next h in
    let lefts = search_unique f x.0 x.2 in
    let rights = search_unique g x.1 x.3 in
    (λ i. Node (lefts i) (rights i)) ∙ sym x.4

pub searches_are_trees : SearchesAreTrees
searches_are_trees problem bounds context = record {
  has_outcome = λ search h. search_outcome h;
  has_search = λ result h. outcome_search h;
  determined = λ search other f g. search_unique f other g;
}
