use Rattle.std.proofs.Common.{List, sym, subst}
use Rattle.candidate_keys.specs.Keys.{AssertKeyValue}
use Rattle.kept_asserts.specs.Held.{HoldsAsserts}
use Rattle.kept_asserts.proofs.Ranked.{where_none, where_some}
use Rattle.kept_asserts.proofs.Taken.{least_is, none_left, taken}
use Rattle.kept_asserts.proofs.least.least_assert.Goals as goal

pub returns-in-Some-2-clause-some : goal.returns-in-Some-2-clause-some
returns-in-Some-2-clause-some g c =
    least_is c.args.problem.now c.args.bounds.now (g.V.View.context c.args.view.now) c.keys.asserts c.keys.invariant c.in-Some.k c.at.result.now c.in-Some-2.entry c.at.ensures c.in-Some.ensures.least
    (where_some c.in_ok-entry.field-0 c.in-Some-2.entry _ c.in-Some-2.is c.in_ok-entry.ensures.some)

pub keys-preserved : goal.keys-preserved
keys-preserved g c =
    let problem = c.args.problem.now in
    let bounds = c.args.bounds.now in
    let context = g.V.View.context c.args.view.now in
    let P : List AssertKeyValue → Type 0 = λ z. HoldsAsserts problem bounds context z in
    subst P (sym c.take.ensures) (taken problem bounds context c.keys.asserts c.keys.invariant c.in-Some.k c.at.result.now c.at.ensures (where_none c.in_ok-entry.field-0 _ c.in_default-2.is c.in_ok-entry.ensures.none))

pub returns-clause-none : goal.returns-clause-none
returns-clause-none g c =
    none_left c.args.problem.now c.args.bounds.now (g.V.View.context c.args.view.now) c.keys.asserts c.keys.invariant c.in_default.ensures.none
