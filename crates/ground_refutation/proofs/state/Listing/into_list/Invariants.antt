use Rattle.std.proofs.Common.{◌≡◌, ◌++◌}
use Rattle.ground_refutation.proofs.state.Listing.into_list.Given as goal

-- What was moved and what is left are the instances.
abbrev pub invariant-loop-instance : goal.invariant-loop-instance
invariant-loop-instance l = l.list.items ++ l.instance-iterator ≡ l.fn.self.instances.keys
