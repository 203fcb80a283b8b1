use Rattle.std.proofs.Common.{◌≤◌, ◌+◌, length}
use Rattle.szs_read.specs.Longer.{IsLonger}
use Rattle.szs_read.specs.Reads.{BeginInstances}
use Rattle.szs_read.proofs.Refuting.{RefutationSoFar}
use Rattle.szs_read.proofs.read.read_refutation.Given as goal

abbrev pub invariant-lines : goal.invariant-lines
invariant-lines l = record {
  read : BeginInstances l.initial.signature l.signature l.initial.lines.rest.now l.lines.rest.now l.list.items;
  count : length l.list.items + length l.lines.rest.now ≤ length l.initial.lines.rest.now;
  longer : IsLonger l.initial.signature l.signature (length l.initial.lines.rest.now) (length l.lines.rest.now);
  so_far : RefutationSoFar l.initial.signature l.signature l.name (length l.list.items + 1) l.initial.lines l.lines;
  fewer : l.lines.passed + length l.lines.rest.now ≤ l.initial.lines.passed + length l.initial.lines.rest.now;
}

abbrev pub decreases-lines : goal.decreases-lines
decreases-lines l = length l.lines.rest.now
