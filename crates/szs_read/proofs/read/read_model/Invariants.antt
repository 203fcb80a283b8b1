use Rattle.std.proofs.Common.{◌≤◌, ◌+◌, length}
use Rattle.szs_read.specs.Longer.{IsLonger}
use Rattle.szs_read.specs.Reads.{BeginEntries}
use Rattle.szs_read.proofs.Modelling.{ModelSoFar}
use Rattle.szs_read.proofs.read.read_model.Given as goal

abbrev pub invariant-lines : goal.invariant-lines
invariant-lines l = record {
  read : BeginEntries l.initial.signature l.signature l.last l.initial.lines.rest.now l.lines.rest.now l.list.items;
  longer : IsLonger l.initial.signature l.signature (length l.initial.lines.rest.now) (length l.lines.rest.now);
  so_far : ModelSoFar l.initial.signature l.signature l.name l.start l.last l.initial.lines l.lines;
  fewer : l.lines.passed + length l.lines.rest.now ≤ l.initial.lines.passed + length l.initial.lines.rest.now;
}

abbrev pub decreases-lines : goal.decreases-lines
decreases-lines l = length l.lines.rest.now
