use Rattle.std.proofs.Common.{◌≡◌, ◌↔◌, IsTrue, sym, subst, ◌∙◌}
use Rattle.std.proofs.lemmas.Option.{same_Some}
use Rattle.std.proofs.lemmas.Result.{IfOk-weaker}
use Rattle.me_terms.specs.Measures.{complement}
use Rattle.me_terms.specs.Values.{EntryValue}
use Rattle.me_terms.specs.Unifier.{unified}
use Rattle.me_terms.specs.Produces.{Produces}
use Rattle.context_unifier.specs.Production.{IsUsed}
use Rattle.context_unifier.proofs.Produced.{produced_by_it}
use Rattle.context_unifier.proofs.productive.is_productive_at.Goals as goal

pub returns-then-weight-le-WRITTEN : goal.returns-then-weight-le-WRITTEN
returns-then-weight-le-WRITTEN g c =
    IfOk-weaker c.produces_place.result _ _ (λ b given f l e general at used.
    let both = given f l general at in
    (λ h. produced_by_it (g.V.View.context c.args.view.now) c.args.k e _ used.visible.0 (both.0 h), λ p. both.1 (e, p))) c.produces_place.ensures

pub returns-else-weight-le-WRITTEN : goal.returns-else-weight-le-WRITTEN
returns-else-weight-le-WRITTEN g c =
    let context = g.V.View.context c.args.view.now in
    IfOk-weaker c.produces_unwritten.result _ _ (λ b given f l e general at used.
    let same : c.in-Some.entry.now ≡ e = same_Some c.in-Some.entry.now e (c.in-Some.ensures.item ∙ used.visible.0) in
    let P : EntryValue → Type 0 = λ x. IsTrue b ↔ Produces context c.args.k x (complement (unified f l)) in
    subst P same (given f l general at (subst (λ (x : EntryValue). IsUsed context c.args.k x f c.args.place l) (sym same) used))) c.produces_unwritten.ensures
