use Rattle.std.proofs.Common.{◌≡◌, ◌+◌, ◌-◌, ◌*◌, ◌≤◌}
use Rattle.me_terms.specs.Variables.{weights}
use Rattle.me_terms.proofs.Waiting.{values}
use Rattle.me_terms.proofs.lighter_first.+weight_within.Given as goal

abbrev pub decreases-weight_within : goal.decreases-weight_within
decreases-weight_within l = 2 * l.limit

abbrev pub decreases-lighter : goal.decreases-lighter
decreases-lighter l = 2 * l.limit + 1

-- What is weighed and what is left give the whole.
abbrev pub invariant-weight_within-terms : goal.invariant-weight_within-terms
invariant-weight_within-terms l = record {
  exact : l.weight + weights (values l.rest) ≡ weights (values l.terms);
  light : l.weight ≤ l.limit;
}

abbrev pub decreases-weight_within-terms : goal.decreases-weight_within-terms
decreases-weight_within-terms l = l.limit - l.weight

abbrev pub invariant-lighter-limits : goal.invariant-lighter-limits
invariant-lighter-limits l = l.most ≤ l.half

abbrev pub decreases-lighter-limits : goal.decreases-lighter-limits
decreases-lighter-limits l = l.half - l.most
