use Rattle.std.proofs.Common.{◌≡◌, ◌≤◌, ◌+◌, ◌-◌, length, drop}
use Rattle.tptp_include.specs.Bundles.{text_in}
use Rattle.tptp_include.proofs.bundle.text_len.Given as goal

-- the text goes on with that of what is left
abbrev pub invariant-end : goal.invariant-end
invariant-end l = (l.end ≤ length l.bytes) × (length (text_in l.bytes) ≡ l.end + length (text_in (drop l.end l.bytes)))

abbrev pub decreases-end : goal.decreases-end
decreases-end l = length l.bytes - l.end
