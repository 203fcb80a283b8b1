use Rattle.std.proofs.Common.{subst}
use Rattle.std.specs.Prelude.{IfOk, IfNone}
use Rattle.me_terms.specs.Values.{EntryValue}
use Rattle.me_terms.specs.Positions.{ClauseAt}
use Rattle.me_terms.specs.Assert.{IsAssert}
use Rattle.candidate_keys.specs.Keys.{AssertKeyValue}
use Rattle.std.proofs.Common.{rules}
use Rattle.kept_asserts.proofs.Ranked.{if_none_map}
use Rattle.kept_asserts.proofs.least.assert_of.Goals as goal

pub returns-clause-none : goal.returns-clause-none
returns-clause-none g c =
    let problem = c.args.problem.now in
    let bounds = c.args.bounds.now in
    let context = g.V.View.context c.args.view.now in
    let at : ClauseAt problem c.key.inside.clause c.in-Some.clause.now = search rules in
    let P : AssertKeyValue → Type 0 = λ z. IfOk c.assert_of_clause.result (λ r. IfNone r ((e : EntryValue) → IsAssert problem bounds context z.clause z.place z.tuple e → ⊥)) in
    subst P c.key.view_is (if_none_map c.assert_of_clause.result _ _ (λ h e is_assert. h problem e at is_assert) c.assert_of_clause.ensures.none)
