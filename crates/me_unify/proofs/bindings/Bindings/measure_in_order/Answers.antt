use Rattle.std.proofs.Common.{rules, ◌≡◌, sym, ap, subst, ◌∙◌, List}
use Rattle.me_terms.specs.Terms.{AtomValue, arguments_of}
use Rattle.me_terms.specs.Substitutions.{apply_atom}
use Rattle.me_unify.specs.Equations.{Equation, IsMostGeneral}
use Rattle.me_unify.specs.Measured.{IsAtomMeasure}
use Rattle.me_unify.specs.Marks.{IsBack, step_equations}
use Rattle.me_unify.proofs.Bound.{bound_back}
use Rattle.me_unify.proofs.Read.{measured_by}
use Rattle.me_unify.proofs.Cut.{mark_before, back_by}
use Rattle.me_unify.proofs.MoreNodes.{same_links}
use Rattle.me_unify.proofs.bindings.Bindings.measure_in_order.Goals as goal

pub cut-requires-clause-mark : goal.cut-requires-clause-mark
cut-requires-clause-mark c =
    mark_before c.self.inside.arena.nodes c.measure_terms-result.new.self.nodes c.self.inside.arena.links c.measure_terms-result.new.self.links c.len-nodes.result c.len-links.result c.self.invariant.arena c.measure_terms-result.ensures.grown
    (same_links c.self.inside.arena.links c.measure_terms-result.new.self.links c.measure_terms-result.ensures.froms c.measure_terms-result.ensures.tos) (search (rules, c.len-nodes.ensures)) (search (rules, c.len-links.ensures))

pub invariant_of-self : goal.invariant_of-self
invariant_of-self c =
    let back : IsBack c.self.inside.arena.nodes c.self.inside.arena.links c.cut.new.self.nodes c.cut.new.self.links =
    back_by c.self.inside.arena.nodes c.measure_terms-result.new.self.nodes c.cut.new.self.nodes c.self.inside.arena.links c.measure_terms-result.new.self.links c.cut.new.self.links c.len-nodes.result c.len-links.result c.measure_terms-result.ensures.grown
    (same_links c.self.inside.arena.links c.measure_terms-result.new.self.links c.measure_terms-result.ensures.froms c.measure_terms-result.ensures.tos) (search (rules, c.len-nodes.ensures)) (search (rules, c.len-links.ensures)) c.cut.ensures.nodes c.cut.ensures.links in
    bound_back c.self.inside.arena.nodes c.cut.new.self.nodes c.self.inside.arena.links c.cut.new.self.links c.self.inside.steps.items c.self.invariant c.cut.ensures.arena back

pub invariant_of-self-2 : goal.invariant_of-self-2
invariant_of-self-2 c =
    let back : IsBack c.self.inside.arena.nodes c.self.inside.arena.links c.cut.new.self.nodes c.cut.new.self.links =
    back_by c.self.inside.arena.nodes c.measure_terms-result.new.self.nodes c.cut.new.self.nodes c.self.inside.arena.links c.measure_terms-result.new.self.links c.cut.new.self.links c.len-nodes.result c.len-links.result c.measure_terms-result.ensures.grown
    (same_links c.self.inside.arena.links c.measure_terms-result.new.self.links c.measure_terms-result.ensures.froms c.measure_terms-result.ensures.tos) (search (rules, c.len-nodes.ensures)) (search (rules, c.len-links.ensures)) c.cut.ensures.nodes c.cut.ensures.links in
    bound_back c.self.inside.arena.nodes c.cut.new.self.nodes c.self.inside.arena.links c.cut.new.self.links c.self.inside.steps.items c.self.invariant c.cut.ensures.arena back

pub returns-in_err-all-clause-kept : goal.returns-in_err-all-clause-kept
returns-in_err-all-clause-kept c =
    let back : IsBack c.self.inside.arena.nodes c.self.inside.arena.links c.cut.new.self.nodes c.cut.new.self.links =
    back_by c.self.inside.arena.nodes c.measure_terms-result.new.self.nodes c.cut.new.self.nodes c.self.inside.arena.links c.measure_terms-result.new.self.links c.cut.new.self.links c.len-nodes.result c.len-links.result c.measure_terms-result.ensures.grown
    (same_links c.self.inside.arena.links c.measure_terms-result.new.self.links c.measure_terms-result.ensures.froms c.measure_terms-result.ensures.tos) (search (rules, c.len-nodes.ensures)) (search (rules, c.len-links.ensures)) c.cut.ensures.nodes c.cut.ensures.links in
    let view : step_equations c.cut.new.self.nodes c.self.inside.steps.items ≡ step_equations c.self.inside.arena.nodes c.self.inside.steps.items = ap (λ z. step_equations z c.self.inside.steps.items) back.nodes_are in
    view ∙ c.self.view_is

pub returns-clause-kept : goal.returns-clause-kept
returns-clause-kept c =
    let back : IsBack c.self.inside.arena.nodes c.self.inside.arena.links c.cut.new.self.nodes c.cut.new.self.links =
    back_by c.self.inside.arena.nodes c.measure_terms-result.new.self.nodes c.cut.new.self.nodes c.self.inside.arena.links c.measure_terms-result.new.self.links c.cut.new.self.links c.len-nodes.result c.len-links.result c.measure_terms-result.ensures.grown
    (same_links c.self.inside.arena.links c.measure_terms-result.new.self.links c.measure_terms-result.ensures.froms c.measure_terms-result.ensures.tos) (search (rules, c.len-nodes.ensures)) (search (rules, c.len-links.ensures)) c.cut.ensures.nodes c.cut.ensures.links in
    let view : step_equations c.cut.new.self.nodes c.self.inside.steps.items ≡ step_equations c.self.inside.arena.nodes c.self.inside.steps.items = ap (λ z. step_equations z c.self.inside.steps.items) back.nodes_are in
    view ∙ c.self.view_is

pub returns-clause-measure : goal.returns-clause-measure
returns-clause-measure c u general =
    let P : List Equation → Type 0 = λ z. IsMostGeneral z u in
    let all = measured_by c.self.inside.arena.nodes c.self.inside.arena.links c.measure_terms-result.new.self.nodes c.measure_terms-result.new.self.links c.self.inside.steps.items c.self.invariant c.measure_terms-result.ensures.arena c.measure_terms-result.ensures.grown c.measure_terms-result.ensures.froms c.measure_terms-result.ensures.tos
    c.args.space (arguments_of c.atom.inside.args.items) c.in_ok-all.all c.in_ok-all.ensures.measure u (subst P (sym c.self.view_is) general) in
    let a : AtomValue = record { pred = c.atom.inside.pred; args = arguments_of c.atom.inside.args.items } in
    let Q : AtomValue → Type 0 = λ z. IsAtomMeasure (apply_atom (u c.args.space) z) c.of_atom.result in
    subst Q c.atom.view_is (c.of_atom.ensures (apply_atom (u c.args.space) a) all)
