-- Iterative deepening: the depth bounds from one on, up to the bounds' own.
use Rattle.std.specs.Prelude.{◌≡◌, ℕ, ◌<◌, ◌≤◌, ◌⊎◌}
use Rattle.me_terms.specs.Values.{ProblemValue}
use Rattle.me_terms.specs.Answer.{AnswerValue, GaveUp, HasAnswer}
use Rattle.me_terms.specs.declared.bounds.Bound.TheVariants as bound
use Rattle.me_terms.specs.declared.bounds.Bounds.{Bounds}

-- The bounds, with another depth.
abbrev pub at_depth : Bounds → ℕ → Bounds
at_depth bounds depth = record { depth = depth; weight = bounds.weight; literals = bounds.literals; list = bounds.list; start = bounds.start }

-- The search stops at a depth with a reply: at each depth before it, from the given one on, the search gives up for depth, and at this one it doesn't, or this is the last.
pub record StopsAt (problem : ProblemValue) (bounds : Bounds) (from depth : ℕ) (reply : AnswerValue) : Type 0 where
  pub begun : from ≤ depth
  pub within : depth ≤ bounds.depth
  pub earlier : (e : ℕ) → from ≤ e → e < depth → HasAnswer problem (at_depth bounds e) (GaveUp bound.Depth)
  pub answered : HasAnswer problem (at_depth bounds depth) reply
  pub stops : ¬ (reply ≡ GaveUp bound.Depth) ⊎ (depth ≡ bounds.depth)

-- The answer with deepening from a depth: that of the depth at which the search stops.
abbrev pub HasAnswerFrom : ProblemValue → Bounds → ℕ → AnswerValue → Type 0
HasAnswerFrom problem bounds from reply = (depth : ℕ) × StopsAt problem bounds from depth reply
