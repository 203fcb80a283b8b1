use Rattle.std.proofs.Common.{◌∙◌, ap, List, ◌++◌, ◌∷◌, []}
use Rattle.ground_solver.specs.declared.signed.Step.{Step}
use Rattle.ground_solver.specs.declared.signed.Step.TheVariants.{Leaf}
use Rattle.ground_solver.proofs.Searching.{forced, excluded, work_forced, work_excluded}
use Rattle.ground_solver.proofs.search.Search.force.Goals as goal

pub returns-then-literal-clause-underway : goal.returns-then-literal-clause-underway
returns-then-literal-clause-underway c = λ clauses n underway below reason.
    forced clauses n c.args.self.now c.hold.new.self c.args.literal c.args.by c.if-literal.true c.in_ok-hold.ensures.values c.in_ok-hold.ensures.trail (c.in_ok-hold.ensures.steps ∙ c.in_ok-push.ensures.items) underway below reason

pub returns-then-literal-clause-less : goal.returns-then-literal-clause-less
returns-then-literal-clause-less c = λ inside unknown.
    work_forced c.args.self.now.values.items c.hold.new.self.values.items c.args.self.now.trail.items c.hold.new.self.trail.items c.args.literal.atom c.args.by c.args.literal.positive c.in_ok-hold.ensures.values c.in_ok-hold.ensures.trail inside unknown

pub returns-clause-underway : goal.returns-clause-underway
returns-clause-underway c = λ clauses n underway below reason.
    let steps = c.in_ok-hold-2.ensures.steps ∙ (c.in_ok-push-2.ensures.items ∙ ap (λ (xs : List Step). xs ++ Leaf c.args.by ∷ []) c.in_ok-push.ensures.items) in
    excluded clauses n c.args.self.now c.hold-2.new.self c.args.literal c.args.by c.if-literal.false c.in_ok-hold-2.ensures.values c.in_ok-hold-2.ensures.trail steps underway below reason

pub returns-clause-less : goal.returns-clause-less
returns-clause-less c = λ inside unknown.
    work_excluded c.args.self.now.values.items c.hold-2.new.self.values.items c.args.self.now.trail.items c.hold-2.new.self.trail.items c.args.literal.atom c.args.literal.positive c.in_ok-hold-2.ensures.values c.in_ok-hold-2.ensures.trail inside unknown
