use Rattle.std.proofs.Common.{◌≡◌, ◌+◌, ◌-◌, ◌*◌, ◌≤◌}
use Rattle.me_terms.proofs.Comparing.{alike_lists}
use Rattle.me_terms.proofs.lighter_first.+alike_within.Given as goal

abbrev pub decreases-alike_within : goal.decreases-alike_within
decreases-alike_within l = 2 * l.limit

abbrev pub decreases-half_alike : goal.decreases-half_alike
decreases-half_alike l = 2 * l.limit + 1

-- What is left decides.
abbrev pub invariant-alike_within-pairs : goal.invariant-alike_within-pairs
invariant-alike_within-pairs l = record {
  decided : alike_lists l.left.rest.now l.left.others.now ≡ alike_lists l.lists.rest.now l.lists.others.now;
  light : l.count ≤ l.limit;
}

abbrev pub decreases-alike_within-pairs : goal.decreases-alike_within-pairs
decreases-alike_within-pairs l = l.limit - l.count

abbrev pub invariant-half_alike-limits : goal.invariant-half_alike-limits
invariant-half_alike-limits l = l.most ≤ l.half

abbrev pub decreases-half_alike-limits : goal.decreases-half_alike-limits
decreases-half_alike-limits l = l.half - l.most
