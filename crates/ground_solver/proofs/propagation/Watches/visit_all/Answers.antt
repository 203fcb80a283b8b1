use Rattle.std.proofs.Common.{◌∙◌, arith, rules}
use Rattle.ground_solver.proofs.Onward.{onward_then}
use Rattle.ground_solver.proofs.propagation.Watches.visit_all.Goals as goal
use Rattle.ground_solver.proofs.propagation.Watches.visit_all.Goals.{then-branch, else-branch}

pub visit_next-requires-clause-underway : goal.visit_next-requires-clause-underway
visit_next-requires-clause-underway c = (c.requires.underway.0, c.watching.invariant.onward.underway (c.requires.underway.0) (c.requires.underway.1))

pub watching-preserved : goal.watching-preserved
watching-preserved c = record {
  onward = onward_then c.args.clauses.now c.args.search.now c.watching.search c.visit_next.new.search c.watching.invariant.onward c.in_ok-visit_next.ensures.onward;
  head = c.visit_next.ensures.head ∙ c.watching.invariant.head;
  found = c.in_ok-visit_next.ensures.refuted;
  kept = elim c.if-branch.branch [ then-branch w ↦ omega arith | else-branch w ↦ omega arith ];
  size = elim c.if-branch.branch [ then-branch w ↦ search rules | else-branch w ↦ search rules ];
}
