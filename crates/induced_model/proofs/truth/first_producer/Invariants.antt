use Rattle.std.proofs.Common.{ℕ, ◌<◌}
use Rattle.induced_model.specs.Producers.{ProducesAt}
use Rattle.induced_model.proofs.truth.first_producer.Given as goal

-- No entry before k produces the literal.
abbrev pub invariant-loop-k : goal.invariant-loop-k
invariant-loop-k g l =
    (i : ℕ) → i < l.k → ¬ ProducesAt (g.V.View.context l.view) i l.positive l.atom
