use Rattle.std.proofs.Common.{length}
use Rattle.tptp_include.proofs.Bundling.{Passed}
use Rattle.tptp_include.proofs.bundle.behind_body.Given as goal

abbrev pub invariant-left : goal.invariant-left
invariant-left l = Passed l.bytes l.left l.lines

abbrev pub decreases-left : goal.decreases-left
decreases-left l = length l.left
