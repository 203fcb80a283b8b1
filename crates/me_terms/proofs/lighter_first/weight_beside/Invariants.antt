use Rattle.std.proofs.Common.{◌-◌}
use Rattle.me_terms.proofs.lighter_first.weight_beside.Given as goal

abbrev pub decreases-limits : goal.decreases-limits
decreases-limits l = l.both - l.most
