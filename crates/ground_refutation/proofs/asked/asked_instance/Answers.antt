use Rattle.std.proofs.Common.{◌≡◌, ◌<◌, ◌++◌, ◌∷◌, [], List, true, sym, subst, ap, ◌∙◌}
use Rattle.me_terms.specs.Substitutions.{Family}
use Rattle.me_terms.specs.Values.{ProblemValue}
use Rattle.me_terms.specs.Measures.{literals_weight}
use Rattle.me_terms.specs.ListedInstances.{constant, instance_of}
use Rattle.me_terms.specs.declared.atom.Literal.{Literal}
use Rattle.me_unify.specs.Equations.{Equation, equation, IsSolvable, IsMostGeneral}
use Rattle.me_unify.specs.ClauseEquations.{equations_from}
use Rattle.ground_refutation.specs.AskedEquations.{asked_equations}
use Rattle.ground_refutation.specs.Queue.{IsDemanded}
use Rattle.instance_lists.specs.declared.error.ListError.{ListError}
use Rattle.instance_lists.specs.declared.error.ListError.TheVariants.{TooHeavy}
use Rattle.ground_refutation.specs.declared.instance.Weighed.{Weighed}
use Rattle.ground_refutation.proofs.Instances.{few_literals, others_solvable, asked_solvable, asked_is}
use Rattle.ground_refutation.proofs.Results.{if_ok_map, if_err_map}
use Rattle.ground_refutation.proofs.asked.asked_instance.Goals as goal

pub bind_all-requires-clause-solvable : goal.bind_all-requires-clause-solvable
bind_all-requires-clause-solvable g c =
    let context = g.V.View.context c.args.view.now in
    let ls = c.literals_of-literals.result.now in
    let asked = c.requires.asked in
    let solvable = others_solvable c.args.problem.now context c.args.clause c.args.place c.args.positions.now c.args.asked.now ls c.index-literals-place.result asked.0 asked.1 c.literals_of-literals.ensures c.index-literals-place.is in
    let P : List Equation → Type 0 = λ qs. IsSolvable (qs ++ equations_from 0 context ls c.args.positions.now) in
    subst P (sym c.new-bindings.ensures) solvable

pub prove-unreachable-requires : goal.prove-unreachable-requires
prove-unreachable-requires g c =
    let context = g.V.View.context c.args.view.now in
    let ls = c.literals_of-literals.result.now in
    let ks = c.args.positions.now in
    let own = c.index-literals-place.result in
    let g' = c.args.asked.now in
    let asked = c.requires.asked in
    let solvable = asked_solvable c.args.problem.now context c.args.clause c.args.place ks g' ls own asked.0 asked.1 c.literals_of-literals.ensures c.index-literals-place.is in
    let places : c.bind_all.new.bindings ≡ equations_from 0 context ls ks = c.in_ok-bind_all.ensures ∙ ap (λ (qs : List Equation). qs ++ equations_from 0 context ls ks) c.new-bindings.ensures in
    let P : List Equation → Type 0 = λ qs. IsSolvable (qs ++ equation 0 own.atom 0 g'.atom ∷ []) in
    let yes : c.in_ok-unified.unified ≡ true = c.in_ok-unified.ensures.exact.1 (subst P (sym places) solvable) in
    cc (yes, c.if-prove.true)

pub returns-clause-exact : goal.returns-clause-exact
returns-clause-exact g c =
    let context = g.V.View.context c.args.view.now in
    let ls = c.literals_of-literals.result.now in
    let ks = c.args.positions.now in
    let own = c.index-literals-place.result in
    let g' = c.args.asked.now in
    let places : c.bind_all.new.bindings ≡ equations_from 0 context ls ks = c.in_ok-bind_all.ensures ∙ ap (λ (qs : List Equation). qs ++ equations_from 0 context ls ks) c.new-bindings.ensures in
    let all : c.unify.new.self ≡ asked_equations context ls ks own g' = c.in_ok-unified.ensures.yes c.if-prove.false ∙ ap (λ (qs : List Equation). qs ++ equation 0 own.atom 0 g'.atom ∷ []) places in
    let v = c.in_ok-unified.ensures.unifier c.if-prove.false in
    let most = subst (λ (qs : List Equation). IsMostGeneral qs v.0) all v.1 in
    let c0 : c.problem.inside.c0 ≡ c.args.problem.now.c0 = ap (λ (p : ProblemValue). p.c0) c.problem.view_is in
    let P : Weighed → Type 0 = λ w. (u : Family) → IsMostGeneral c.unify.new.self u → w.literals.items ≡ instance_of u (λ x. constant c.problem.inside.c0) ls in
    let Q : Weighed → Type 0 = λ w. (literals : List Literal) → IsDemanded c.args.problem.now context c.args.clause c.args.place ks g' literals → w.literals.items ≡ literals in
    if_ok_map c.instance_within.result P Q (λ w h literals asked.
    h v.0 v.1 ∙ (ap (λ n. instance_of v.0 (λ x. constant n) ls) c0 ∙ asked_is c.args.problem.now context c.args.clause c.args.place ks g' ls own literals asked c.literals_of-literals.ensures c.index-literals-place.is v.0 most))
    c.instance_within.ensures.exact

pub returns-clause-heavy : goal.returns-clause-heavy
returns-clause-heavy g c =
    let context = g.V.View.context c.args.view.now in
    let ls = c.literals_of-literals.result.now in
    let ks = c.args.positions.now in
    let own = c.index-literals-place.result in
    let g' = c.args.asked.now in
    let places : c.bind_all.new.bindings ≡ equations_from 0 context ls ks = c.in_ok-bind_all.ensures ∙ ap (λ (qs : List Equation). qs ++ equations_from 0 context ls ks) c.new-bindings.ensures in
    let all : c.unify.new.self ≡ asked_equations context ls ks own g' = c.in_ok-unified.ensures.yes c.if-prove.false ∙ ap (λ (qs : List Equation). qs ++ equation 0 own.atom 0 g'.atom ∷ []) places in
    let v = c.in_ok-unified.ensures.unifier c.if-prove.false in
    let most = subst (λ (qs : List Equation). IsMostGeneral qs v.0) all v.1 in
    let c0 : c.problem.inside.c0 ≡ c.args.problem.now.c0 = ap (λ (p : ProblemValue). p.c0) c.problem.view_is in
    let P : ListError → Type 0 = λ e. e ≡ TooHeavy → (u : Family) → IsMostGeneral c.unify.new.self u → c.args.bound < literals_weight (instance_of u (λ x. constant c.problem.inside.c0) ls) in
    let Q : ListError → Type 0 = λ e. e ≡ TooHeavy → (literals : List Literal) → IsDemanded c.args.problem.now context c.args.clause c.args.place ks g' literals → c.args.bound < literals_weight literals in
    let R : List Literal → Type 0 = λ ms. c.args.bound < literals_weight ms in
    if_err_map c.instance_within.result P Q (λ e h is literals asked.
    subst R (ap (λ n. instance_of v.0 (λ x. constant n) ls) c0 ∙ asked_is c.args.problem.now context c.args.clause c.args.place ks g' ls own literals asked c.literals_of-literals.ensures c.index-literals-place.is v.0 most) (h is v.0 v.1))
    c.instance_within.ensures.heavy

pub bind_all-requires-clause-few : goal.bind_all-requires-clause-few
bind_all-requires-clause-few g c =
    let asked = c.requires.asked.1.instance in
    few_literals c.args.problem.now c.requires.valid c.args.clause c.literals_of-literals.result.now c.literals_of-literals.ensures asked.clause asked.clause_at
