use Rattle.std.proofs.Common.{Option, None, IfNone, subst}
use Rattle.me_terms.specs.Values.{ProblemValue, EntryValue}
use Rattle.me_terms.specs.Positions.{ClauseAt}
use Rattle.me_terms.specs.Assert.{IsAssert}
use Rattle.assert_rule.specs.AssertOrder.{ComesBeforeBest}
use Rattle.assert_rule.proofs.asserting.assert_of.Goals as goal

pub returns-in-None-clause-none : goal.returns-in-None-clause-none
returns-in-None-clause-none g c =
    let context = g.V.View.context c.args.view.now in
    let P : Option EntryValue → Type 0 = λ o. IfNone o
    ((problem : ProblemValue) (e : EntryValue) → ClauseAt problem c.args.index c.args.clause.now → IsAssert problem c.args.bounds.now context c.args.index c.args.place c.args.tuple.now.items e → ¬ ComesBeforeBest e None) in
    λ problem e at a. subst P c.in-None.is c.in_ok-candidate.ensures.none problem e at a tt
