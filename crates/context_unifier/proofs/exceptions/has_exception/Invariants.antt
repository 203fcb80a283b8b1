use Rattle.std.proofs.Common.{◌≡◌, ℕ, ◌<◌}
use Rattle.me_terms.specs.Terms.{AtomValue}
use Rattle.induced_model.specs.Producers.{ExceptsAt}
use Rattle.context_unifier.specs.Frozen.{TellInstances}
use Rattle.context_unifier.proofs.exceptions.has_exception.Given as goal

-- No entry so far makes an exception, and the equations stay.
abbrev pub invariant-loop-j : goal.invariant-loop-j
invariant-loop-j g l = record {
  one : l.frozen.one ≡ l.initial.frozen.one;
  other : l.frozen.other ≡ l.initial.frozen.other;
  none : (d : AtomValue) → TellInstances l.initial.frozen.one l.initial.frozen.other l.literal.atom d → (i : ℕ) → i < l.j → ¬ ExceptsAt (g.V.View.context l.view) i l.entry d;
}
