use Rattle.std.proofs.Common.{◌≡◌, slice_get, Some, sym, ap, ◌∙◌}
use Rattle.std.proofs.lemmas.Option.{same_Some}
use Rattle.me_terms.specs.Substitutions.{Family, apply_literal}
use Rattle.me_terms.specs.Measures.{canonical_literal}
use Rattle.me_terms.specs.Unifier.{unified}
use Rattle.me_terms.specs.declared.atom.Literal.{Literal}
use Rattle.me_unify.specs.Equations.{IsMostGeneral}
use Rattle.me_unify.proofs.Forest.{if_ok_map}
use Rattle.joint_unifiers.proofs.unifier.Unifier.literal.Goals as goal

pub returns : goal.returns
returns c =
    let bindings = c.self.inside.bindings in
    let literals = c.self.inside.literals.now.items in
    let found : slice_get literals c.args.place ≡ Some c.in-Some.literal.now = sym c.in-Some.ensures.item in
    let P : Literal → Type 0 = λ m. (u : Family) → IsMostGeneral bindings u → m ≡ canonical_literal (apply_literal (u 0) c.in-Some.literal.now) in
    let Q : Literal → Type 0 = λ m. (f : Family) (l : Literal) → IsMostGeneral bindings f → slice_get literals c.args.place ≡ Some l → m ≡ canonical_literal (unified f l) in
    rw (← c.self.view_is) (if_ok_map c.literal.result P Q (λ m h f l general at. h f general ∙ ap (λ z. canonical_literal (unified f z)) (same_Some c.in-Some.literal.now l (sym found ∙ at))) c.literal.ensures.form)
