use Rattle.assert_rule.proofs.Owed.{if_none_map}
use Rattle.assert_rule.proofs.asserting.candidate_of.Goals as goal

pub returns-clause-none : goal.returns-clause-none
returns-clause-none g c = if_none_map c.assert_with.result _ _ (λ h problem e at a. h problem e at a tt) c.assert_with.ensures.none
