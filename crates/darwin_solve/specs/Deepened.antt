-- How far a search with deepening has come.
use Rattle.std.specs.Prelude.{ℕ, ◌<◌, ◌≤◌}
use Rattle.me_terms.specs.Values.{ProblemValue}
use Rattle.me_terms.specs.Answer.{GaveUp, HasAnswer}
use Rattle.me_terms.specs.Deepening.{at_depth}
use Rattle.me_terms.specs.declared.bounds.Bound.TheVariants as bound
use Rattle.me_terms.specs.declared.bounds.Bounds.{Bounds}

-- A search that began at one depth comes to another: each depth between them met the bound of depth.
pub record ComesTo (problem : ProblemValue) (bounds : Bounds) (from depth : ℕ) : Type 0 where
  pub begun : from ≤ depth
  pub within : depth ≤ bounds.depth
  pub earlier : (e : ℕ) → from ≤ e → e < depth → HasAnswer problem (at_depth bounds e) (GaveUp bound.Depth)
