use Rattle.std.proofs.Common.{rules, ℕ, List, ◌++◌, length, map, refl, ap, sym, subst, ◌∙◌}
use Rattle.std.specs.List.{All}
use Rattle.std.proofs.lemmas.List.Elements.{All-push}
use Rattle.me_laws.specs.Pairing.{pair}
use Rattle.me_terms.specs.Terms.{arguments_of}
use Rattle.me_terms.specs.Terms as tree
use Rattle.me_terms.specs.Substitutions.{apply_term, apply_arguments}
use Rattle.me_terms.specs.Variables.{term_variables, variables_of, first_ones}
use Rattle.me_terms.specs.Names.{by_place}
use Rattle.me_unify.specs.declared.reading.Writing.{Writing}
use Rattle.me_unify.specs.Left.{term_at, numbers}
use Rattle.me_unify.proofs.Frames.{left_variables, AreWithin, written_next, written_opened, written_closed, written_all, opened_less, next_less, closed_less, variables_next, variables_opened, variables_closed, variables_all, named, map_end, nothing_left, parts_of}
use Rattle.me_unify.proofs.Writing.{opened, IsWithin, list_is, others_within}
use Rattle.me_unify.proofs.ReadOff.{last_var, last_app, args_within}
use Rattle.me_unify.proofs.arena.Arena.write_nodes.Goals as goal

pub nodes-smaller-in-App : goal.nodes-smaller-in-App
nodes-smaller-in-App c =
    let h = term_at c.args.self.now.nodes c.args.self.now.links in
    let frame : Writing = record { f = c.in-App.f; made = c.nodes.made; rest = c.in-Some.others } in
    let is = last_app c.args.self.now.nodes c.args.self.now.links c.in-Some.first.now c.find-last.result c.node.result.now c.in-App.f c.in-App.args c.requires.arena c.requires.solution c.find-last.ensures.within c.find-last.ensures.free c.find-last.ensures.alike c.node.ensures c.in-App.is in
    let list = list_is h c.nodes.rest.now c.in-Some.others.now c.as_slice-rest.result.now c.in-App.args.items c.in-Some.first.now c.in-App.f c.in-Some.ensures.cases.0 is c.as_slice-rest.ensures.value in
    let end = map_end (opened h) c.nodes.above.items c.push-in-App.new.self.items frame c.in_ok-push-in-App.ensures.items in
    opened_less (map (opened h) c.nodes.above.items) (map (opened h) c.push-in-App.new.self.items) (opened h frame) (map h c.nodes.rest.now) (map h c.as_slice-rest.result.now) c.in-App.f list end

pub nodes-preserved-in-App : goal.nodes-preserved-in-App
nodes-preserved-in-App c =
    let h = term_at c.args.self.now.nodes c.args.self.now.links in
    let all = first_ones (numbers c.args.names.now.keys) (variables_of (arguments_of (map (term_at c.args.self.now.nodes c.args.self.now.links) c.args.xs.now))) in
    let frame : Writing = record { f = c.in-App.f; made = c.nodes.made; rest = c.in-Some.others } in
    let is = last_app c.args.self.now.nodes c.args.self.now.links c.in-Some.first.now c.find-last.result c.node.result.now c.in-App.f c.in-App.args c.requires.arena c.requires.solution c.find-last.ensures.within c.find-last.ensures.free c.find-last.ensures.alike c.node.ensures c.in-App.is in
    let list = list_is h c.nodes.rest.now c.in-Some.others.now c.as_slice-rest.result.now c.in-App.args.items c.in-Some.first.now c.in-App.f c.in-Some.ensures.cases.0 is c.as_slice-rest.ensures.value in
    let end = map_end (opened h) c.nodes.above.items c.push-in-App.new.self.items frame c.in_ok-push-in-App.ensures.items in
    let P : List ℕ → Type 0 = λ xs. AreWithin (length c.args.self.now.nodes) xs in
    let Q : List Writing → Type 0 = λ frs. All (IsWithin (length c.args.self.now.nodes)) frs in
    record {
      names = ap (first_ones (numbers c.nodes.names.keys)) (variables_opened (map (opened h) c.nodes.above.items) (map (opened h) c.push-in-App.new.self.items) (opened h frame) (map h c.nodes.rest.now) (map h c.as_slice-rest.result.now) c.in-App.f list end)
          ∙ c.nodes.invariant.names;
      made = λ later. written_opened (by_place (all ++ later)) (map (opened h) c.nodes.above.items) (map (opened h) c.push-in-App.new.self.items) (opened h frame) c.in_ok-made-in-App.made.items c.nodes.made.items (map h c.nodes.rest.now) (map h c.as_slice-rest.result.now) _ c.in-App.f
          list end refl refl c.in_ok-made-in-App.ensures (c.nodes.invariant.made later);
      within = subst P (sym c.as_slice-rest.ensures.value) (args_within c.args.self.now.nodes c.args.self.now.links c.find-last.result c.node.result.now c.in-App.f c.in-App.args c.requires.arena c.node.ensures c.in-App.is);
      within_above = subst Q (sym c.in_ok-push-in-App.ensures.items) (All-push (IsWithin (length c.args.self.now.nodes)) c.nodes.above.items frame c.nodes.invariant.within_above
          (others_within (length c.args.self.now.nodes) c.nodes.rest.now c.in-Some.others.now c.in-Some.first.now c.in-Some.ensures.cases.0 c.nodes.invariant.within));
    }

pub nodes-preserved-in-Var : goal.nodes-preserved-in-Var
nodes-preserved-in-Var c =
    let h = term_at c.args.self.now.nodes c.args.self.now.links in
    let all = first_ones (numbers c.args.names.now.keys) (variables_of (arguments_of (map (term_at c.args.self.now.nodes c.args.self.now.links) c.args.xs.now))) in
    let is = last_var c.args.self.now.nodes c.args.self.now.links c.in-Some.first.now c.find-last.result c.node.result.now c.in-Var.space c.in-Var.var c.requires.arena c.requires.solution c.find-last.ensures.within c.find-last.ensures.free c.find-last.ensures.alike c.node.ensures c.in-Var.is in
    let first = ap (map h) c.in-Some.ensures.cases.0 in
    let more = c.in_ok-x-in-Var.ensures.names ∙ ap (λ t. first_ones (numbers c.nodes.names.keys) (term_variables t)) (sym is) in
    let names = variables_next (map (opened h) c.nodes.above.items) (numbers c.nodes.names.keys) (numbers c.number.new.names.keys) all (map h c.nodes.rest.now) (map h c.in-Some.others.now) (h c.in-Some.first.now) first more c.nodes.invariant.names in
    record {
      names = names;
      made = λ later. written_next (by_place (all ++ later)) (map (opened h) c.nodes.above.items) c.nodes.made.items c.push.new.self.items (map h c.nodes.rest.now) (map h c.in-Some.others.now) _ (h c.in-Some.first.now) (tree.Var c.in_ok-x-in-Var.x) first (search rules)
          (ap tree.Var (named (numbers c.number.new.names.keys) all (left_variables (map (opened h) c.nodes.above.items) (variables_of (arguments_of (map h c.in-Some.others.now)))) (pair c.in-Var.space c.in-Var.var) c.in_ok-x-in-Var.x later names c.in_ok-x-in-Var.ensures.number)
          ∙ ap (apply_term (by_place (all ++ later))) (sym is))
          (c.nodes.invariant.made later);
      within = others_within (length c.args.self.now.nodes) c.nodes.rest.now c.in-Some.others.now c.in-Some.first.now c.in-Some.ensures.cases.0 c.nodes.invariant.within;
      within_above = c.nodes.invariant.within_above;
    }

pub nodes-smaller-in-Var : goal.nodes-smaller-in-Var
nodes-smaller-in-Var c =
    let h = term_at c.args.self.now.nodes c.args.self.now.links in
    next_less (map (opened h) c.nodes.above.items) (map h c.nodes.rest.now) (map h c.in-Some.others.now) (h c.in-Some.first.now) (ap (map h) c.in-Some.ensures.cases.0)

pub nodes-smaller : goal.nodes-smaller
nodes-smaller c =
    let h = term_at c.args.self.now.nodes c.args.self.now.links in
    closed_less (map (opened h) c.nodes.above.items) (map (opened h) c.pop.new.self.items) (opened h c.in-Some-pop.frame) _ (map_end (opened h) c.pop.new.self.items c.nodes.above.items c.in-Some-pop.frame c.in-Some-pop.ensures.items)

pub nodes-preserved : goal.nodes-preserved
nodes-preserved c =
    let h = term_at c.args.self.now.nodes c.args.self.now.links in
    let all = first_ones (numbers c.args.names.now.keys) (variables_of (arguments_of (map (term_at c.args.self.now.nodes c.args.self.now.links) c.args.xs.now))) in
    let end = map_end (opened h) c.pop.new.self.items c.nodes.above.items c.in-Some-pop.frame c.in-Some-pop.ensures.items in
    let none = nothing_left h c.nodes.rest.now (search rules) in
    let parts = parts_of (IsWithin (length c.args.self.now.nodes)) c.nodes.above.items c.pop.new.self.items c.in-Some-pop.frame c.in-Some-pop.ensures.items c.nodes.invariant.within_above in
    record {
      names = ap (first_ones (numbers c.nodes.names.keys)) (variables_closed (map (opened h) c.nodes.above.items) (map (opened h) c.pop.new.self.items) (opened h c.in-Some-pop.frame) (map h c.nodes.rest.now) none end) ∙ c.nodes.invariant.names;
      made = λ later. written_closed (by_place (all ++ later)) (map (opened h) c.nodes.above.items) (map (opened h) c.pop.new.self.items) (opened h c.in-Some-pop.frame) c.nodes.made.items c.push-in_default.new.self.items (map h c.nodes.rest.now) _
          none end (search rules) (c.nodes.invariant.made later);
      within = parts.1;
      within_above = parts.0;
    }

pub returns-in_default-pop-clause-names : goal.returns-in_default-pop-clause-names
returns-in_default-pop-clause-names c =
    let h = term_at c.args.self.now.nodes c.args.self.now.links in
    variables_all (map (opened h) c.nodes.above.items) (numbers c.nodes.names.keys) _ (map h c.nodes.rest.now) (nothing_left (opened h) c.nodes.above.items (search rules)) (nothing_left h c.nodes.rest.now (search rules)) c.nodes.invariant.names

pub returns-in_default-pop-clause-terms : goal.returns-in_default-pop-clause-terms
returns-in_default-pop-clause-terms c later =
    let h = term_at c.args.self.now.nodes c.args.self.now.links in
    let all = first_ones (numbers c.args.names.now.keys) (variables_of (arguments_of (map (term_at c.args.self.now.nodes c.args.self.now.links) c.args.xs.now))) in
    let no_frame = nothing_left (opened h) c.nodes.above.items (search rules) in
    let no_node = nothing_left h c.nodes.rest.now (search rules) in
    let same = variables_all (map (opened h) c.nodes.above.items) (numbers c.nodes.names.keys) all (map h c.nodes.rest.now) no_frame no_node c.nodes.invariant.names in
    written_all (by_place (all ++ later)) (map (opened h) c.nodes.above.items) c.nodes.made.items (map h c.nodes.rest.now) (map h c.args.xs.now) no_frame no_node (c.nodes.invariant.made later)
    ∙ ap (λ ns. apply_arguments (by_place (ns ++ later)) (arguments_of (map h c.args.xs.now))) (sym same)
