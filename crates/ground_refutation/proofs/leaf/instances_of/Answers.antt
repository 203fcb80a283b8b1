use Rattle.std.proofs.Common.{◌≡◌, ◌<◌, [], List, IfErr, rules, sym, subst, ap, ◌∙◌}
use Rattle.std.proofs.lemmas.List.{append-nil}
use Rattle.me_terms.specs.Values.{InstanceValue}
use Rattle.me_terms.specs.FirstOccurrences.{first_occurrences}
use Rattle.me_terms.specs.LeafList.{Demand, IsLeafList}
use Rattle.me_terms.specs.Measures.{list_weight}
use Rattle.me_laws_refutation.specs.RightDemands.{IsRight}
use Rattle.ground_refutation.specs.Queue.{Completes}
use Rattle.instance_lists.specs.declared.error.ListError.{ListError}
use Rattle.instance_lists.specs.declared.error.ListError.TheVariants.{TooHeavy}
use Rattle.ground_refutation.proofs.Answering.{leaf_exists, none_first, first_of, rest_of}
use Rattle.ground_refutation.proofs.Listing.{distinct_first}
use Rattle.ground_refutation.proofs.Results.{if_err_map}
use Rattle.ground_refutation.proofs.Steps.{done}
use Rattle.ground_refutation.proofs.leaf.instances_of.Goals as goal

pub work-requires-clause-right : goal.work-requires-clause-right
work-requires-clause-right g c =
    first_of (IsRight c.args.p.now (g.V.View.context c.args.view.now)) _ _ _ c.in-Some.ensures.items c.loop-demand.invariant.underway.right

pub work-requires-clause-underway : goal.work-requires-clause-underway
work-requires-clause-underway g c =
    record {
      listing = c.loop-demand.invariant.underway.listing;
      right = rest_of (IsRight c.args.p.now (g.V.View.context c.args.view.now)) _ _ _ c.in-Some.ensures.items c.loop-demand.invariant.underway.right;
    }

pub work-requires-clause-completes : goal.work-requires-clause-completes
work-requires-clause-completes g c =
    let p = c.args.p.now in
    let context = g.V.View.context c.args.view.now in
    let s = c.loop-demand.state in
    let leaf = leaf_exists p c.requires.valid context c.requires.grown c.args.clause c.args.tuple.now.items c.requires.close in
    let P : List Demand → Type 0 = λ ds. Completes p context s.asked.keys ds s.listing.instances.keys leaf.0 in
    (leaf.0, subst P c.in-Some.ensures.items (c.loop-demand.invariant.completes leaf.0 leaf.1))

pub loop-demand-preserved : goal.loop-demand-preserved
loop-demand-preserved g c =
    let p = c.args.p.now in
    let context = g.V.View.context c.args.view.now in
    let s = c.loop-demand.state in
    record {
      underway = c.in_ok-work.ensures.underway;
      completes = λ list leaf.
          let P : List Demand → Type 0 = λ ds. Completes p context s.asked.keys ds s.listing.instances.keys list in
          c.in_ok-work.ensures.completes list (subst P c.in-Some.ensures.items (c.loop-demand.invariant.completes list leaf));
    }

pub returns-in_err-work-clause-heavy : goal.returns-in_err-work-clause-heavy
returns-in_err-work-clause-heavy g c =
    let p = c.args.p.now in
    let context = g.V.View.context c.args.view.now in
    let s = c.loop-demand.state in
    let P : ListError → Type 0 = λ e. e ≡ c.in_err-work.field-0.0 in
    let Q : ListError → Type 0 = λ e. e ≡ TooHeavy → (list : List InstanceValue) → IsLeafList p context c.args.clause c.args.tuple.now.items list → c.args.bound < list_weight list in
    let same : IfErr c.from_residual-in_err-work.result P = search rules in
    if_err_map c.from_residual-in_err-work.result P Q (λ e is heavy list leaf.
    let R : List Demand → Type 0 = λ ds. Completes p context s.asked.keys ds s.listing.instances.keys list in
    c.in_err-work.ensures.heavy (sym is ∙ heavy) list (subst R c.in-Some.ensures.items (c.loop-demand.invariant.completes list leaf))) same

pub returns-clause-list : goal.returns-clause-list
returns-clause-list g c =
    let p = c.args.p.now in
    let context = g.V.View.context c.args.view.now in
    let s = c.loop-demand.state in
    let listed = s.listing.instances.keys in
    let tuple = c.args.tuple.now.items in
    let leaf = leaf_exists p c.requires.valid context c.requires.grown c.args.clause tuple c.requires.close in
    let empty : s.waiting.items ≡ [] = none_first s.waiting.items (c.in_default.ensures.items ∙ c.in_default.ensures.rest) in
    let R : List Demand → Type 0 = λ ds. Completes p context s.asked.keys ds listed leaf.0 in
    let whole = subst R empty (c.loop-demand.invariant.completes leaf.0 leaf.1) in
    let same : leaf.0 ≡ listed = done p context s.asked.keys [] listed leaf.0 whole ∙ (ap first_occurrences (append-nil listed) ∙ distinct_first listed c.loop-demand.invariant.underway.listing.distinct) in
    let P : List InstanceValue → Type 0 = λ list. IsLeafList p context c.args.clause tuple list in
    subst P (same ∙ sym c.in_ok-into_list.ensures) leaf.1
