use Rattle.me_terms.specs.Positions.{positions_of}
use Rattle.kept_asserts.proofs.Opposed.{AreOpposed}
use Rattle.kept_asserts.proofs.opposing.are_opposite.Given as goal

abbrev pub invariant-loop-place : goal.invariant-loop-place
invariant-loop-place g l = AreOpposed (g.V.View.context l.view) l.literals (positions_of l.skip l.positions) l.place
