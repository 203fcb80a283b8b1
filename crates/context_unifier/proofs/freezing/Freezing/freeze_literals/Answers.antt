use Rattle.context_unifier.proofs.FrozenClauses.{stays_twice}
use Rattle.context_unifier.proofs.freezing.Freezing.freeze_literals.Goals as goal

pub loop-literal-preserved : goal.loop-literal-preserved
loop-literal-preserved c = stays_twice _ c.loop-literal.self.bindings _ _ c.loop-literal.self.next _ c.loop-literal.invariant c.in_ok-freeze_terms.ensures
