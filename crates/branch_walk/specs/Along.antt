-- A branch, and what is kept along it.
use Rattle.std.specs.Prelude.{◌≡◌, length, take}
use Rattle.me_terms.specs.Values.{ProblemValue}
use Rattle.me_terms.specs.Context.{Context}
use Rattle.me_terms.specs.declared.bounds.Bounds.{Bounds}
use Rattle.candidate_store.specs.Kept.{StoreValue, StandsFor}

-- The store stands for the first entries of the context, as many as it has frames.
abbrev pub IsAlong : ProblemValue → Bounds → Context → StoreValue → Type 0
IsAlong problem bounds context store = StandsFor problem bounds (take (length store.frames) context) store

-- A branch of the search of a problem within bounds: it stands at the context.
pub record BranchValue : Type 0 where
  pub problem : ProblemValue
  pub bounds : Bounds
  pub context : Context

-- The branch is one of the search of the problem within the bounds.
pub record IsOf (problem : ProblemValue) (bounds : Bounds) (branch : BranchValue) : Type 0 where
  pub same_problem : branch.problem ≡ problem
  pub same_bounds : branch.bounds ≡ bounds

-- Both are branches of one search.
abbrev pub HaveOneSearch : BranchValue → BranchValue → Type 0
HaveOneSearch old new = IsOf old.problem old.bounds new
