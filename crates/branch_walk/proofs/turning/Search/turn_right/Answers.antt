use Rattle.std.proofs.Common.{length, ap, arith}
use Rattle.branch_walk.proofs.GoingBack.{taken_off}
use Rattle.branch_walk.proofs.Ends.{longer}
use Rattle.branch_walk.proofs.Reasons.{can_turn}
use Rattle.branch_walk.proofs.turning.Search.turn_right.Goals as goal

pub grow-requires-clause-literal : goal.grow-requires-clause-literal
grow-requires-clause-literal g c =
    let a = c.args in
    let old = g.T.View.context a.branch.now in
    let new = g.T.View.context c.shrink.new.self in
    let s = c.requires.left in
    let many = ap length s.is in
    let more = longer s.before s.left in
    let some = s.some in
    let off = taken_off c.shrink.result old new c.shrink.ensures.taken c.shrink.ensures.alone.0 (omega (arith, many, more, some)) in
    (can_turn a.self.now.problem.now a.self.now.bounds.now old new c.in_ok-entry.entry c.requires.grown s off c.in_ok-entry.ensures).literal

pub grow-requires-clause-apart : goal.grow-requires-clause-apart
grow-requires-clause-apart g c =
    let a = c.args in
    let old = g.T.View.context a.branch.now in
    let new = g.T.View.context c.shrink.new.self in
    let s = c.requires.left in
    let many = ap length s.is in
    let more = longer s.before s.left in
    let some = s.some in
    let off = taken_off c.shrink.result old new c.shrink.ensures.taken c.shrink.ensures.alone.0 (omega (arith, many, more, some)) in
    (can_turn a.self.now.problem.now a.self.now.bounds.now old new c.in_ok-entry.entry c.requires.grown s off c.in_ok-entry.ensures).apart
