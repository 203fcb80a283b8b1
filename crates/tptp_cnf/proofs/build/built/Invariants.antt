use Rattle.std.proofs.Common.{◌≡◌, ◌≤◌, length, drop}
use Rattle.tptp_cnf.specs.Rows.{built as built_of}
use Rattle.tptp_cnf.specs.Views.{stacks}
use Rattle.tptp_cnf.proofs.build.built.Given as goal

abbrev pub invariant-nodes : goal.invariant-nodes
invariant-nodes l = record {
  within : l.count ≤ length l.nodes;
  stacks : stacks l.terms l.literals ≡ built_of (drop l.count l.nodes);
}

abbrev pub decreases-nodes : goal.decreases-nodes
decreases-nodes l = l.count
