use Rattle.std.proofs.Common.{◌≡◌, reverse, vec_len}
use Rattle.tptp_lines.specs.LineViews.{picks_value}
use Rattle.tptp_include.specs.Flat.{picked}
use Rattle.tptp_include.specs.Outcomes.{added}
use Rattle.tptp_include.proofs.flat.Flat.add_picked.Given as goal

-- what is left to be added comes behind what was added
abbrev pub invariant-left : goal.invariant-left
invariant-left l = added l.self (picked (picks_value l.picks) (reverse l.left.items)) ≡ added l.fn.self (picked (picks_value l.picks) l.fn.whole)

abbrev pub decreases-left : goal.decreases-left
decreases-left l = vec_len l.left
