use Rattle.std.proofs.Common.{Option, Some, IfSome, subst}
use Rattle.std.specs.Option.{option_copied}
use Rattle.me_terms.specs.Values.{ProblemValue, EntryValue}
use Rattle.me_terms.specs.Positions.{ClauseAt}
use Rattle.me_terms.specs.Assert.{IsAssert}
use Rattle.joint_unifiers.specs.ClauseUnifiers.{UnifierValue, IsUnifierOf}
use Rattle.assert_rule.specs.AssertOrder.{ComesBeforeBest}
use Rattle.assert_rule.specs.AssertedEntries.{Asserts, AssertsBy}
use Rattle.assert_rule.proofs.Owed.{asserts_of, of_asserts, some_map, none_map}
use Rattle.assert_rule.proofs.asserting.assert_with.Goals as goal

pub returns-in_ok-assert_by-in-Some-clause-some : goal.returns-in_ok-assert_by-in-Some-clause-some
returns-in_ok-assert_by-in-Some-clause-some g c =
    let context = g.V.View.context c.args.view.now in
    let clause = c.args.clause.now in
    let place = c.args.place in
    let tuple = c.args.tuple.now.items in
    let bounds = c.args.bounds.now in
    let u = c.in-Some.unifier in
    let P : Option UnifierValue → Type 0 = λ o. IfSome o (IsUnifierOf context clause.literals (Some place) tuple) in
    let of : IsUnifierOf context clause.literals (Some place) tuple u = subst P c.in-Some.is c.in_ok-unifier.ensures.unifier in
    some_map c.in_ok-assert_by-in-Some.field-0 (AssertsBy u bounds context c.args.index place) (Asserts bounds context clause c.args.index place tuple)
    (λ e a. asserts_of u bounds context clause c.args.index place tuple e of c.requires.opposite a) c.in_ok-assert_by-in-Some.ensures.some

pub returns-in_ok-assert_by-in-Some-clause-none : goal.returns-in_ok-assert_by-in-Some-clause-none
returns-in_ok-assert_by-in-Some-clause-none g c =
    let context = g.V.View.context c.args.view.now in
    let clause = c.args.clause.now in
    let place = c.args.place in
    let tuple = c.args.tuple.now.items in
    let bounds = c.args.bounds.now in
    let u = c.in-Some.unifier in
    let best = option_copied c.args.best in
    let P : Option UnifierValue → Type 0 = λ o. IfSome o (IsUnifierOf context clause.literals (Some place) tuple) in
    let of : IsUnifierOf context clause.literals (Some place) tuple u = subst P c.in-Some.is c.in_ok-unifier.ensures.unifier in
    none_map c.in_ok-assert_by-in-Some.field-0 ((e : EntryValue) → AssertsBy u bounds context c.args.index place e → ¬ ComesBeforeBest e best)
    ((problem : ProblemValue) (e : EntryValue) → ClauseAt problem c.args.index clause → IsAssert problem bounds context c.args.index place tuple e → ¬ ComesBeforeBest e best)
    (λ h problem e at a. h e (of_asserts u problem bounds context clause c.args.index place tuple e of at a)) c.in_ok-assert_by-in-Some.ensures.none
