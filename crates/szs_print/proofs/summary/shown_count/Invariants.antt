use Rattle.std.proofs.Common.{◌≤◌}
use Rattle.szs_print.specs.SummaryText.{IsShownCount}
use Rattle.szs_print.proofs.summary.shown_count.Given as goal

-- The lines for the positions so far are counted.
abbrev pub invariant-loop-k : goal.invariant-loop-k
invariant-loop-k l = record {
  counted : IsShownCount l.entries l.k l.count;
  few : l.count ≤ l.k;
}
