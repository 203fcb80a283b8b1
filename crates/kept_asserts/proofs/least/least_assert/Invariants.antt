use Rattle.std.proofs.Common.{length}
use Rattle.kept_asserts.specs.Held.{HoldsAsserts}
use Rattle.kept_asserts.proofs.least.least_assert.Given as goal

abbrev pub invariant-keys : goal.invariant-keys
invariant-keys g l = HoldsAsserts l.problem l.bounds (g.V.View.context l.view) l.asserts

abbrev pub decreases-keys : goal.decreases-keys
decreases-keys g l = length l.asserts
