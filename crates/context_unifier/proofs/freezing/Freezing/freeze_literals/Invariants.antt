use Rattle.context_unifier.specs.Frozen.{StaysFrozen}
use Rattle.context_unifier.proofs.freezing.Freezing.freeze_literals.Given as goal

abbrev pub invariant-loop-literal : goal.invariant-loop-literal
invariant-loop-literal l = StaysFrozen l.initial.self.bindings l.initial.self.next l.self.bindings l.self.next
