use Rattle.std.proofs.Common.{ℕ, List, Option, IsNone, refl, sym, subst, ap, ◌∙◌}
use Rattle.me_terms.specs.Measures.{literals_weight}
use Rattle.me_terms.specs.declared.atom.Literal.{Literal}
use Rattle.me_unify.specs.Equations.{Equation, IsMostGeneral}
use Rattle.ground_refutation.proofs.instance.instance_within.Goals as goal

pub returns-in-None-clause-heavy : goal.returns-in-None-clause-heavy
returns-in-None-clause-heavy c same u most =
    let P : Option ℕ → Type 0 = λ o. IsNone o in
    c.in_ok-weight_within.ensures.heavy (subst P (sym c.in-None.is) refl) u c.args.c0 most

pub returns-in_ok-written-in-Some-clause-exact : goal.returns-in_ok-written-in-Some-clause-exact
returns-in_ok-written-in-Some-clause-exact c u most =
    let P : List Equation → Type 0 = λ qs. IsMostGeneral qs u in
    c.in_ok-written-in-Some.ensures u (subst P (sym c.in_ok-weight_within.ensures.kept) most)

pub returns-in_ok-written-in-Some-clause-weight : goal.returns-in_ok-written-in-Some-clause-weight
returns-in_ok-written-in-Some-clause-weight c =
    let found = c.requires.unifier in
    let P : List Equation → Type 0 = λ qs. IsMostGeneral qs found.0 in
    let counted = rw c.in-Some.is at c.in_ok-weight_within.ensures.exact in
    let is_written = c.in_ok-written-in-Some.ensures found.0 (subst P (sym c.in_ok-weight_within.ensures.kept) found.1) in
    counted found.0 c.args.c0 found.1 ∙ ap (λ (ls : List Literal). literals_weight ls) (sym is_written)
