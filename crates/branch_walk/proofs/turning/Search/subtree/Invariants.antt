use Rattle.branch_core.specs.Hooks.{SameGifts}
use Rattle.branch_walk.specs.Along.{IsOf}
use Rattle.branch_walk.specs.Tallies.{AddsAtMost}
use Rattle.branch_walk.proofs.Subtrees.{IsWalking}
use Rattle.branch_walk.proofs.Work.{work}
use Rattle.branch_walk.proofs.turning.Search.subtree.Given as goal

abbrev pub invariant-walk : goal.invariant-walk
invariant-walk g l = record {
  of : IsOf l.self.problem.now l.self.bounds.now l.branch;
  walking : IsWalking l.self.problem.now l.self.bounds.now (l.initial.branch.context) (l.branch.context) (g.H.Hook.history l.initial.hook) (g.H.Hook.history l.hook) l.initial.tally l.tally;
  pushes : AddsAtMost 0 l.initial.tally l.tally;
  condition : SameGifts (g.H.Hook.may_give l.initial.hook) (g.H.Hook.may_give l.hook);
}

abbrev pub decreases-walk : goal.decreases-walk
decreases-walk g l = work l.self.bounds.now.literals (l.branch.context)
