use Rattle.context_unifier.specs.Frozen.{StaysFrozen}
use Rattle.context_unifier.proofs.freezing.Freezing.freeze_entries.Given as goal

abbrev pub invariant-loop-place : goal.invariant-loop-place
invariant-loop-place g l = StaysFrozen l.initial.self.bindings l.initial.self.next l.self.bindings l.self.next
