use Rattle.std.proofs.Common.{None}
use Rattle.next_rule.specs.SplitSearches.{SplitClauses, Looks}
use Rattle.next_rule.proofs.search.Search.split.Given as goal

abbrev pub invariant-loop-c : goal.invariant-loop-c
invariant-loop-c g l =
    Looks l.self.problem.now l.self.bounds.now (g.V.View.context l.self.view.now) (SplitClauses l.c) (record { best = None; met = None }) l.state
