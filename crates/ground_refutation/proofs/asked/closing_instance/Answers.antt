use Rattle.std.proofs.Common.{◌≡◌, ℕ, ◌<◌, ◌++◌, List, None, sym, subst, ap, ◌∙◌}
use Rattle.me_terms.specs.Substitutions.{Family}
use Rattle.me_terms.specs.Values.{ProblemValue}
use Rattle.me_terms.specs.Measures.{literals_weight}
use Rattle.me_terms.specs.Positions.{positions_of}
use Rattle.me_terms.specs.ListedInstances.{constant, instance_of, IsClosingInstance}
use Rattle.me_terms.specs.declared.atom.Literal.{Literal}
use Rattle.me_laws.proofs.OutcomeDetermined.{closing_unique}
use Rattle.me_unify.specs.Equations.{Equation, IsSolvable, IsMostGeneral}
use Rattle.me_unify.specs.ClauseEquations.{equations_from}
use Rattle.instance_lists.specs.declared.error.ListError.{ListError}
use Rattle.instance_lists.specs.declared.error.ListError.TheVariants.{TooHeavy}
use Rattle.ground_refutation.specs.declared.instance.Weighed.{Weighed}
use Rattle.ground_refutation.proofs.Instances.{few_literals, closing_solvable, closing_unifier, closing_is}
use Rattle.ground_refutation.proofs.Results.{if_ok_map, if_err_map}
use Rattle.ground_refutation.proofs.asked.closing_instance.Goals as goal

pub bind_all-requires-clause-solvable : goal.bind_all-requires-clause-solvable
bind_all-requires-clause-solvable g c =
    let context = g.V.View.context c.args.view.now in
    let ls = c.literals_of-literals.result.now in
    let close = c.requires.close in
    let solvable = closing_solvable c.args.problem.now context c.args.clause c.args.positions.now ls c.literals_of-literals.ensures close.0 close.1 close.2 in
    let P : List Equation → Type 0 = λ qs. IsSolvable (qs ++ equations_from 0 context ls c.args.positions.now) in
    subst P (sym c.new-bindings.ensures) solvable

pub instance_within-requires-clause-unifier : goal.instance_within-requires-clause-unifier
instance_within-requires-clause-unifier g c =
    let context = g.V.View.context c.args.view.now in
    let ls = c.literals_of-literals.result.now in
    let ks = c.args.positions.now in
    let close = c.requires.close in
    let places : c.bind_all.new.bindings ≡ equations_from 0 context ls ks = c.in_ok-bind_all.ensures ∙ ap (λ (qs : List Equation). qs ++ equations_from 0 context ls ks) c.new-bindings.ensures in
    let P : List Equation → Type 0 = λ qs. (u : Family) × IsMostGeneral qs u in
    subst P (sym places) (closing_unifier c.args.problem.now context c.args.clause ks ls c.literals_of-literals.ensures close.0 close.1 close.2)

pub returns-clause-closing : goal.returns-clause-closing
returns-clause-closing g c =
    let context = g.V.View.context c.args.view.now in
    let ls = c.literals_of-literals.result.now in
    let ks = c.args.positions.now in
    let close = c.requires.close in
    let places : c.bind_all.new.bindings ≡ equations_from 0 context ls ks = c.in_ok-bind_all.ensures ∙ ap (λ (qs : List Equation). qs ++ equations_from 0 context ls ks) c.new-bindings.ensures in
    let most = closing_unifier c.args.problem.now context c.args.clause ks ls c.literals_of-literals.ensures close.0 close.1 close.2 in
    let c0 : c.problem.inside.c0 ≡ c.args.problem.now.c0 = ap (λ (p : ProblemValue). p.c0) c.problem.view_is in
    let there = subst (λ (qs : List Equation). IsMostGeneral qs most.0) (sym places) most.1 in
    let P : Weighed → Type 0 = λ w. (u : Family) → IsMostGeneral c.bind_all.new.bindings u → w.literals.items ≡ instance_of u (λ x. constant c.problem.inside.c0) ls in
    let Q : Weighed → Type 0 = λ w. (tuple : List ℕ) → ks ≡ positions_of None tuple → IsClosingInstance c.args.problem.now context c.args.clause tuple w.literals.items in
    if_ok_map c.instance_within.result P Q (λ w h tuple are.
    closing_is c.args.problem.now context c.args.clause ks ls c.literals_of-literals.ensures tuple are close.2.clause close.2.clause_at most.0 most.1 w.literals.items (h most.0 there ∙ ap (λ n. instance_of most.0 (λ x. constant n) ls) c0))
    c.instance_within.ensures.exact

pub returns-clause-heavy : goal.returns-clause-heavy
returns-clause-heavy g c =
    let context = g.V.View.context c.args.view.now in
    let ls = c.literals_of-literals.result.now in
    let ks = c.args.positions.now in
    let close = c.requires.close in
    let places : c.bind_all.new.bindings ≡ equations_from 0 context ls ks = c.in_ok-bind_all.ensures ∙ ap (λ (qs : List Equation). qs ++ equations_from 0 context ls ks) c.new-bindings.ensures in
    let most = closing_unifier c.args.problem.now context c.args.clause ks ls c.literals_of-literals.ensures close.0 close.1 close.2 in
    let c0 : c.problem.inside.c0 ≡ c.args.problem.now.c0 = ap (λ (p : ProblemValue). p.c0) c.problem.view_is in
    let there = subst (λ (qs : List Equation). IsMostGeneral qs most.0) (sym places) most.1 in
    let mine = instance_of most.0 (λ x. constant c.problem.inside.c0) ls in
    let P : ListError → Type 0 = λ e. e ≡ TooHeavy → (u : Family) → IsMostGeneral c.bind_all.new.bindings u → c.args.bound < literals_weight (instance_of u (λ x. constant c.problem.inside.c0) ls) in
    let Q : ListError → Type 0 = λ e. e ≡ TooHeavy → (tuple : List ℕ) (literals : List Literal) → ks ≡ positions_of None tuple → IsClosingInstance c.args.problem.now context c.args.clause tuple literals → c.args.bound < literals_weight literals in
    let R : List Literal → Type 0 = λ ms. c.args.bound < literals_weight ms in
    if_err_map c.instance_within.result P Q (λ e h is tuple literals are closing.
    let own = closing_is c.args.problem.now context c.args.clause ks ls c.literals_of-literals.ensures tuple are close.2.clause close.2.clause_at most.0 most.1 mine (ap (λ n. instance_of most.0 (λ x. constant n) ls) c0) in
    subst R (closing_unique c.args.problem.now context c.args.clause tuple mine literals own closing) (h is most.0 there))
    c.instance_within.ensures.heavy

pub bind_all-requires-clause-few : goal.bind_all-requires-clause-few
bind_all-requires-clause-few g c =
    let close = c.requires.close in
    few_literals c.args.problem.now c.requires.valid c.args.clause c.literals_of-literals.result.now c.literals_of-literals.ensures close.2.clause close.2.clause_at
