use Rattle.std.proofs.Common.{◌≡◌, ◌<◌, length, take, slice_get, Some, refl, ap, ◌∙◌, arith}
use Rattle.std.proofs.lemmas.Option.{slice_get_read}
use Rattle.me_unify.specs.Marks.{step_equations}
use Rattle.me_unify.proofs.Bound.{bound_less, view_less}
use Rattle.me_unify.proofs.bindings.Bindings.undo.Goals as goal

pub cut-requires-clause-mark : goal.cut-requires-clause-mark
cut-requires-clause-mark c =
    let lt : c.args.mark < length c.self.inside.steps.items = omega (arith, c.if-mark-len.true, c.len.ensures) in
    let at : slice_get c.self.inside.steps.items c.args.mark ≡ Some c.index-step.result.now = slice_get_read c.self.inside.steps.items (length c.self.inside.steps.items) c.args.mark c.index-step.result.now refl lt c.index-step.ensures in
    let stage = c.self.invariant.before c.args.mark c.index-step.result.now at in
    stage.mark

pub invariant_of-self : goal.invariant_of-self
invariant_of-self c =
    let lt : c.args.mark < length c.self.inside.steps.items = omega (arith, c.if-mark-len.true, c.len.ensures) in
    let at : slice_get c.self.inside.steps.items c.args.mark ≡ Some c.index-step.result.now = slice_get_read c.self.inside.steps.items (length c.self.inside.steps.items) c.args.mark c.index-step.result.now refl lt c.index-step.ensures in
    rw (c.cut.ensures.nodes, c.truncate.ensures.items) (bound_less c.self.inside.arena.nodes c.self.inside.arena.links c.cut.new.self.links c.self.inside.steps.items c.args.mark c.index-step.result.now c.self.invariant at (rw c.cut.ensures.nodes at c.cut.ensures.arena) c.cut.ensures.links)

pub returns-then-mark-len : goal.returns-then-mark-len
returns-then-mark-len c =
    let lt : c.args.mark < length c.self.inside.steps.items = omega (arith, c.if-mark-len.true, c.len.ensures) in
    let at : slice_get c.self.inside.steps.items c.args.mark ≡ Some c.index-step.result.now = slice_get_read c.self.inside.steps.items (length c.self.inside.steps.items) c.args.mark c.index-step.result.now refl lt c.index-step.ensures in
    let view : step_equations c.cut.new.self.nodes c.truncate.new.self.items ≡ take c.args.mark (step_equations c.self.inside.arena.nodes c.self.inside.steps.items) =
    rw (c.cut.ensures.nodes, c.truncate.ensures.items) (view_less c.self.inside.arena.nodes c.self.inside.arena.links c.cut.new.self.links c.self.inside.steps.items c.args.mark c.index-step.result.now c.self.invariant at (rw c.cut.ensures.nodes at c.cut.ensures.arena)) in
    view ∙ ap (take c.args.mark) c.self.view_is
