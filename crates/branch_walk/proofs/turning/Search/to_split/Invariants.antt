use Rattle.std.proofs.Common.{◌-◌, length}
use Rattle.branch_core.specs.Hooks.{SameGifts}
use Rattle.branch_walk.specs.Along.{IsOf}
use Rattle.branch_walk.proofs.Descents.{IsDescending}
use Rattle.branch_walk.proofs.turning.Search.to_split.Given as goal

abbrev pub invariant-down : goal.invariant-down
invariant-down g l = record {
  of : IsOf l.self.problem.now l.self.bounds.now l.branch;
  walking : IsDescending l.self.problem.now l.self.bounds.now (l.initial.branch.context) (l.branch.context) (g.H.Hook.history l.initial.hook) (g.H.Hook.history l.hook) l.initial.tally l.tally;
  condition : SameGifts (g.H.Hook.may_give l.initial.hook) (g.H.Hook.may_give l.hook);
}

abbrev pub decreases-down : goal.decreases-down
decreases-down g l = l.self.bounds.now.literals - length (l.branch.context)
