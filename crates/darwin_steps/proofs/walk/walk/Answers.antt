use Rattle.darwin_steps.proofs.Results.{told}
use Rattle.darwin_steps.proofs.Tracing.{traced_all, traced_cut, traced_more, traced_none}
use Rattle.darwin_steps.proofs.walk.walk.Goals as goal

pub steps-init : goal.steps-init
steps-init g c = traced_none c.args.problem.now c.args.bounds.now _ _ c.in-Ok.ensures

pub steps-preserved : goal.steps-preserved
steps-preserved g c =
    let t = c.in_ok-goes_on.ensures in
    let on = c.if-not-goes_on.false in
    traced_more c.args.problem.now c.args.bounds.now _ _ _ _ _ c.in_ok-goes_on.goes_on c.steps.invariant on (t.grown on) t.told

pub returns-then-not-goes_on : goal.returns-then-not-goes_on
returns-then-not-goes_on g c =
    traced_all c.args.problem.now c.args.bounds.now _ _ _ _ _ c.in_ok-goes_on.goes_on c.steps.invariant c.if-not-goes_on.true c.in_ok-goes_on.ensures.told

pub returns : goal.returns
returns g c =
    told c.say.result _ _ (λ last. traced_cut c.args.problem.now c.args.bounds.now _ _ _ _ c.steps.invariant last) c.say.ensures
