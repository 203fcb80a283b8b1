use Rattle.std.proofs.Common.{refl}
use Rattle.induced_model.proofs.Producers.{some_produces}
use Rattle.induced_model.proofs.truth.truth_of.Goals as goal

pub unreachable-requires : goal.unreachable-requires
unreachable-requires g c =
    some_produces _ _ c.in-None.ensures.is_context (c.in_default.ensures.none refl) (c.in-None.ensures.none refl)

pub returns-clause-value : goal.returns-clause-value
returns-clause-value g c = (
  λ t. cc,
  λ h. absurd (c.in_default.ensures.none refl h.0 (h.1, h.2)),
)
