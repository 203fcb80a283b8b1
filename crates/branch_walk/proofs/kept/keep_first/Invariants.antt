use Rattle.std.proofs.Common.{length}
use Rattle.me_terms.specs.Values.{ProblemValue}
use Rattle.me_terms.specs.Context.{Context}
use Rattle.me_terms.specs.declared.bounds.Bounds.{Bounds}
use Rattle.branch_walk.specs.Along.{IsAlong}
use Rattle.branch_walk.proofs.kept.keep_first.Given as goal

abbrev pub invariant-down : goal.invariant-down
invariant-down l = (problem : ProblemValue) (bounds : Bounds) (context : Context) → IsAlong problem bounds context l.initial.store → IsAlong problem bounds context l.store

abbrev pub decreases-down : goal.decreases-down
decreases-down l = length l.store.frames
