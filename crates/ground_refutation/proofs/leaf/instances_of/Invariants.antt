use Rattle.std.proofs.Common.{List}
use Rattle.me_terms.specs.Values.{InstanceValue}
use Rattle.me_terms.specs.LeafList.{IsLeafList}
use Rattle.ground_refutation.specs.Queue.{Completes, IsUnderway}
use Rattle.ground_refutation.specs.Work.{longest, work_all}
use Rattle.ground_refutation.proofs.leaf.instances_of.Given as goal

-- What is listed and what waits make the leaf's list.
abbrev pub invariant-loop-demand : goal.invariant-loop-demand
invariant-loop-demand g l = record {
  underway : IsUnderway l.p (g.V.View.context l.view) l.bound l.state.waiting.items l.state.listing.instances.keys l.state.listing.weight;
  completes : (list : List InstanceValue) → IsLeafList l.p (g.V.View.context l.view) l.clause l.tuple.items list → Completes l.p (g.V.View.context l.view) l.state.asked.keys l.state.waiting.items l.state.listing.instances.keys list;
}

abbrev pub decreases-loop-demand : goal.decreases-loop-demand
decreases-loop-demand g l = work_all (longest l.p.clauses) l.state.waiting.items
