use Rattle.std.proofs.Common.{◌≡◌, ◌↔◌, IsSome, List, length, Option, sym, ap, subst, ◌∙◌, refl}
use Rattle.std.specs.Prelude.{IfSome}
use Rattle.me_terms.specs.Positions.{positions_of}
use Rattle.me_terms.specs.Values.{ClauseValue}
use Rattle.me_terms.specs.declared.atom.Literal.{Literal}
use Rattle.me_unify.specs.Equations.{Equation, IsSolvable, IsMostGeneral}
use Rattle.me_unify.specs.ClauseEquations.{clause_equations}
use Rattle.joint_unifiers.proofs.Bridge.{general_of}
use Rattle.joint_unifiers.proofs.ContextUnifiers.{some_unifier, some_solution, is_unifier}
use Rattle.joint_unifiers.proofs.Remaining.{are_places}
use Rattle.joint_unifiers.proofs.joint.joint_unifier.Goals as goal

pub returns-in_default-clause-exact : goal.returns-in_default-clause-exact
returns-in_default-clause-exact g c =
    let context = g.V.View.context c.args.view.now in
    let positions = positions_of c.args.skip c.args.tuple.now.items in
    let same : c.as_slice.result.now ≡ c.args.clause.now.literals = c.as_slice.ensures ∙ ap (λ (v : ClauseValue). v.literals) c.clause.view_is in
    let P : List Literal → Type 0 = λ ls. IsSome c.in_ok-bindings.field-0 ↔ IsSolvable (clause_equations context ls positions) in
    let exact = subst P same c.in_ok-bindings.ensures.exact in (
      λ t. cc,
      λ h. let t : IsSome c.in_ok-bindings.field-0 = exact.1 (some_solution context c.args.clause.now.literals c.args.skip c.args.tuple.now.items h) in rw c.in_default.is at t,
    )

pub new-requires-clause-family : goal.new-requires-clause-family
new-requires-clause-family g c =
    let context = g.V.View.context c.args.view.now in
    let positions = positions_of c.args.skip c.args.tuple.now.items in
    let ls = c.as_slice.result.now in
    let es = clause_equations context ls positions in
    let given : c.in-Some.bindings ≡ es = subst (λ (o : Option (List Equation)). IfSome o (λ b. b ≡ es)) c.in-Some.is c.in_ok-bindings.ensures.equations in
    let some : IsSome c.in_ok-bindings.field-0 = rw c.in-Some.is refl in
    rw given (general_of context ls positions (c.in_ok-bindings.ensures.exact.0 some))

pub new-requires-clause-places : goal.new-requires-clause-places
new-requires-clause-places g c =
    let context = g.V.View.context c.args.view.now in
    let positions = positions_of c.args.skip c.args.tuple.now.items in
    let literals : c.clause.inside.literals.items ≡ c.args.clause.now.literals = ap (λ (v : ClauseValue). v.literals) c.clause.view_is in
    let general = new-requires-clause-family g c in
    are_places context positions general.0 c.clause.inside.literals.items c.in_ok-remainder.remainder.items (c.requires.opposite.each_place ∙ ap length (sym literals)) (c.in_ok-remainder.ensures general.0 general.1)

pub returns-clause-exact : goal.returns-clause-exact
returns-clause-exact g c =
    let context = g.V.View.context c.args.view.now in
    let positions = positions_of c.args.skip c.args.tuple.now.items in
    let some : IsSome c.in_ok-bindings.field-0 = rw c.in-Some.is refl in
    let same : c.as_slice.result.now ≡ c.args.clause.now.literals = c.as_slice.ensures ∙ ap (λ (v : ClauseValue). v.literals) c.clause.view_is in
    let P : List Literal → Type 0 = λ ls. IsSolvable (clause_equations context ls positions) in (
      λ t. some_unifier context c.args.clause.now.literals c.args.skip c.args.tuple.now.items c.requires.opposite (subst P same (c.in_ok-bindings.ensures.exact.0 some)),
      λ h. refl,
    )

pub returns-clause-unifier : goal.returns-clause-unifier
returns-clause-unifier g c =
    let context = g.V.View.context c.args.view.now in
    let positions = positions_of c.args.skip c.args.tuple.now.items in
    let literals : c.clause.inside.literals.items ≡ c.args.clause.now.literals = ap (λ (v : ClauseValue). v.literals) c.clause.view_is in
    let es = clause_equations context c.as_slice.result.now positions in
    let given : c.in-Some.bindings ≡ es = subst (λ (o : Option (List Equation)). IfSome o (λ b. b ≡ es)) c.in-Some.is c.in_ok-bindings.ensures.equations in
    let equations = c.in_ok-new.ensures.equations ∙ (given ∙ ap (λ ls. clause_equations context ls positions) (c.as_slice.ensures ∙ literals)) in
    is_unifier context c.args.clause.now.literals c.args.skip c.args.tuple.now.items c.in_ok-new.field-0 (c.in_ok-new.ensures.literals ∙ literals) c.in_ok-new.ensures.tuple equations
    (λ f h. let P : List Equation → Type 0 = λ es. IsMostGeneral es f in c.in_ok-new.ensures.remainder ∙ c.in_ok-remainder.ensures f (subst P c.in_ok-new.ensures.equations h))
