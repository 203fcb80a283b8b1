use Rattle.std.proofs.Common.{ℕ, ◌<◌, reverse, vec_len}
use Rattle.ground_solver.specs.Numbered.{Clauses}
use Rattle.ground_solver.specs.Standings.{IsRefutedAt}
use Rattle.ground_solver.specs.Underway.{IsUnderway, IsEnding, free, left_by, work}
use Rattle.ground_solver.proofs.search.Search.close.Given as goal

-- The branch so far is closed, and less than before is left to do.
abbrev pub invariant-trail : goal.invariant-trail
invariant-trail l = record {
  ending : (clauses : Clauses) (n : ℕ) → IsUnderway clauses n l.fn.self → IsRefutedAt clauses l.fn.self.values.items l.fn.by → IsEnding clauses n l.self;
  less : left_by (free l.self.values.items) (reverse l.self.trail.items) < work l.fn.self.values.items l.fn.self.trail.items;
}

abbrev pub decreases-trail : goal.decreases-trail
decreases-trail l = vec_len l.self.trail
