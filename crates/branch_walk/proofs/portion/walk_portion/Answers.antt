use Rattle.std.proofs.Common.{[], subst}
use Rattle.branch_core.specs.Hooks.{History}
use Rattle.branch_walk.specs.Tallies.{AllStandApart}
use Rattle.branch_walk.proofs.PortionEnds.{portion}
use Rattle.branch_walk.proofs.StaysApart.{joined_through}
use Rattle.branch_walk.proofs.portion.walk_portion.Goals as goal

pub walk-state-requires-clause-kept : goal.walk-state-requires-clause-kept
walk-state-requires-clause-kept g c = ([], c.new-tally.ensures.tally c.args.bounds.now.list)

pub returns-clause-portion : goal.returns-clause-portion
returns-clause-portion g c =
    let problem = c.args.problem.now in
    let bounds = c.args.bounds.now in
    let path = c.args.job.path in
    let w = c.walk-state.ensures.walked in
    let done = c.finish.ensures.pieces bounds.list w.more (w.tally [] (c.new-tally.ensures.tally bounds.list)) in
    let through = joined_through bounds.list done.0 (subst AllStandApart done.2 done.3) in
    let first : History = g.H.Hook.history c.args.hook.now in
    let now : History = g.H.Hook.history c.walk-state.new.hook in
    record {
      given = w.gave;
      told = w.told;
      posted = w.sent;
      extends = w.extends;
      portion = λ search tree.
          portion problem bounds c.args.share path (g.T.View.context c.args.job.branch) c.requires.job.grown c.requires.job.turns c.walk-state.result first now c.new-tally.result c.walk-state.new.tally w done.0 done.1 through _ (λ i. record { path = path; parts = done.2 i }) search tree;
    }
