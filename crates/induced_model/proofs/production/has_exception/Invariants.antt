use Rattle.std.proofs.Common.{ℕ, ◌<◌}
use Rattle.induced_model.specs.Producers.{ExceptsAt}
use Rattle.induced_model.proofs.production.has_exception.Given as goal

-- No entry before j makes an exception.
abbrev pub invariant-loop-j : goal.invariant-loop-j
invariant-loop-j g l =
    (i : ℕ) → i < l.j → ¬ ExceptsAt (g.V.View.context l.view) i l.entry l.atom
