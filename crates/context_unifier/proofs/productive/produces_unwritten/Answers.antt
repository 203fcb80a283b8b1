use Rattle.std.proofs.Common.{◌≡◌, ℕ, List, length, slice_get, Option, Some, None, refl, sym, ap, subst, ◌∙◌}
use Rattle.std.specs.Prelude.{IfSome}
use Rattle.std.proofs.lemmas.Option.{same_Some, slice_get_read}
use Rattle.std.proofs.lemmas.Result.{IfOk-weaker}
use Rattle.me_terms.specs.Positions.{positions_of}
use Rattle.me_terms.specs.Substitutions.{Family, apply_atom}
use Rattle.me_terms.specs.declared.atom.Literal.{Literal}
use Rattle.me_unify.specs.Equations.{IsMostGeneral}
use Rattle.me_unify.specs.ClauseEquations.{clause_equations}
use Rattle.joint_unifiers.proofs.Bridge.{unifier_iff}
use Rattle.context_unifier.specs.Frozen.{TellInstances}
use Rattle.context_unifier.specs.declared.frozen.Frozen.{Frozen}
use Rattle.context_unifier.proofs.Produced.{produced_by_it}
use Rattle.context_unifier.proofs.Undisputed.{unwritten}
use Rattle.context_unifier.proofs.productive.produces_unwritten.Goals as goal

pub returns-in_ok-has_exception-in-Some : goal.returns-in_ok-has_exception-in-Some
returns-in_ok-has_exception-in-Some g c f l general own used =
    let context = g.V.View.context c.args.view.now in
    let literals = c.args.literals.now in
    let place = c.args.place in
    let item = c.index-literals-place.result in
    let here : slice_get literals place ≡ Some item = slice_get_read literals (length literals) place item refl c.requires.within c.index-literals-place.is in
    let same : item ≡ l = same_Some item l (sym here ∙ (ap (λ (ls : List Literal). slice_get ls place) (sym c.requires.unifier.literals) ∙ own)) in
    let by_tuple = (unifier_iff context literals (positions_of None c.args.u.now.tuple) f).1 ((c.requires.unifier.families f).0 general) in
    let most : IsMostGeneral (clause_equations context literals (positions_of None c.tuple.result.now.items)) f =
    subst (λ (ks : List ℕ). IsMostGeneral (clause_equations context literals (positions_of None ks)) f) (sym c.tuple.ensures.positions) by_tuple in
    let P : Frozen → Type 0 = λ z. (h : Family) → IsMostGeneral (clause_equations context literals (positions_of None c.tuple.result.now.items)) h → TellInstances z.one z.other item.atom (apply_atom (h 0) item.atom) in
    let tells = subst (λ (o : Option Frozen). IfSome o P) c.in-Some.is c.in_ok-frozen.ensures in
    unwritten context c.args.k c.args.entry.now f place l item c.in_ok-has_exception-in-Some.field-0 used c.requires.parametric same (c.in_ok-has_exception-in-Some.ensures (apply_atom (f 0) item.atom) (tells f most))

pub returns-in-None : goal.returns-in-None
returns-in-None g c =
    IfOk-weaker c.produces_place.result _ _ (λ b given f l general at used.
    let both = given f l general at in
    (λ h. produced_by_it (g.V.View.context c.args.view.now) c.args.k c.args.entry.now _ used.visible.0 (both.0 h), λ p. both.1 (c.args.entry.now, p))) c.produces_place.ensures
