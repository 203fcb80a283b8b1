use Rattle.context_unifier.proofs.FrozenClauses.{stays_twice}
use Rattle.context_unifier.proofs.freezing.Freezing.freeze_entries.Goals as goal

pub loop-place-preserved : goal.loop-place-preserved
loop-place-preserved g c = stays_twice _ c.loop-place.self.bindings _ _ c.loop-place.self.next _ c.loop-place.invariant c.in_ok-freeze_position.ensures
