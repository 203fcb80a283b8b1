-- The tree of a context and its outcome.
use Rattle.std.specs.Prelude.{◌≡◌}
use Rattle.me_terms.specs.Values.{ProblemValue}
use Rattle.me_terms.specs.Outcome.{TreeOutcome, HasOutcome}
use Rattle.me_terms.specs.Context.{Context}
use Rattle.me_terms.specs.declared.bounds.Bounds.{Bounds}
use Rattle.branch_core.specs.SearchTree.{SearchTree, IsSearchTree, outcome_of}

-- The tree of a context and its outcome: an outcome has a tree, a tree has an outcome, and a context has at most one tree.
pub record SearchIsTree (problem : ProblemValue) (bounds : Bounds) (context : Context) : Type 0 where
  pub has_outcome : (search : SearchTree) → IsSearchTree problem bounds context search → HasOutcome problem bounds context (outcome_of search)
  pub has_search : (outcome : TreeOutcome) → HasOutcome problem bounds context outcome → (search : SearchTree) × IsSearchTree problem bounds context search × (outcome ≡ outcome_of search)
  pub determined : (search other : SearchTree) → IsSearchTree problem bounds context search → IsSearchTree problem bounds context other → search ≡ other

-- So it is of every context of every problem within all bounds.
abbrev pub SearchesAreTrees : Type 0
SearchesAreTrees = (problem : ProblemValue) (bounds : Bounds) (context : Context) → SearchIsTree problem bounds context
