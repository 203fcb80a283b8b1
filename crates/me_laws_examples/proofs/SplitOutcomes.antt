-- The outcome of a node, and joined lists: each by computing.
use Rattle.std.proofs.Common.{refl}
use Rattle.me_laws_examples.specs.SplitOutcomes.{OutcomesAreJoined}

pub outcomes_are_joined : OutcomesAreJoined
outcomes_are_joined = (
  λ left right list more. record { left_sat = refl; sat_over_closed = refl; sat_over_bound = refl; left_bound = refl; bound_on_the_left = refl; bound_on_the_right = refl; closed = refl },
  record { at_the_bound = refl; beyond_it = refl; each_once = refl; joined_once = refl },
)
