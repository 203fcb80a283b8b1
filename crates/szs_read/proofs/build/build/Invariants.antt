use Rattle.std.proofs.Common.{◌≡◌, ◌≤◌, length, drop, map, reverse}
use Rattle.me_terms.specs.TermViews.{term_value}
use Rattle.me_terms.specs.Terms.{arguments_of}
use Rattle.szs_read.specs.Rows.{nodes_of as rows_of}
use Rattle.szs_read.proofs.build.build.Given as goal

abbrev pub invariant-nodes : goal.invariant-nodes
invariant-nodes l = record {
  within : l.left ≤ length l.nodes;
  built : rows_of (arguments_of (map term_value (reverse l.stack.items))) ≡ drop l.left l.nodes;
}

abbrev pub decreases-nodes : goal.decreases-nodes
decreases-nodes l = l.left
