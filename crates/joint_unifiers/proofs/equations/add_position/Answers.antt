use Rattle.std.proofs.Common.{◌↔◌, ◌++◌, IsTrue, Option, subst}
use Rattle.std.specs.Prelude.{IfOk}
use Rattle.me_terms.specs.Values.{EntryValue}
use Rattle.me_unify.specs.Equations.{IsSolvable}
use Rattle.me_unify.specs.ClauseEquations.{equations_at}
use Rattle.joint_unifiers.proofs.equations.add_position.Goals as goal

pub returns-in-Some-entry-clause-exact : goal.returns-in-Some-entry-clause-exact
returns-in-Some-entry-clause-exact g c =
    let P : Option EntryValue → Type 0 = λ o. IfOk c.add_entry.result (λ answer. IsTrue answer ↔ IsSolvable (c.args.bindings.now ++ equations_at c.args.space o c.args.literal.now)) in
    rw c.in-Some.is (subst P c.in-Some-entry.ensures.item c.add_entry.ensures.exact)
