use Rattle.std.proofs.Common.{◌-◌, length}
use Rattle.me_terms.specs.declared.bounds.Bounds.{Bounds}
use Rattle.branch_walk.specs.Along.{IsAlong}
use Rattle.branch_walk.proofs.kept.catch_up.Given as goal

abbrev pub invariant-up : goal.invariant-up
invariant-up g l = (bounds : Bounds) → IsAlong l.problem bounds (g.V.View.context l.view) l.initial.store → IsAlong l.problem bounds (g.V.View.context l.view) l.store

abbrev pub decreases-up : goal.decreases-up
decreases-up g l = length (g.V.View.context l.view) - length l.store.frames
