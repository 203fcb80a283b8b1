use Rattle.std.proofs.Common.{◌++◌, ap, sym, ◌∙◌}
use Rattle.me_terms.specs.Terms as tree
use Rattle.me_terms.specs.Substitutions.{apply_term}
use Rattle.me_terms.specs.Variables.{term_variables, first_ones}
use Rattle.me_terms.specs.Names.{by_place}
use Rattle.me_unify.specs.Left.{numbers}
use Rattle.me_unify.proofs.ReadOff.{last_var, last_app, args_within}
use Rattle.me_unify.proofs.arena.Arena.write_node.Goals as goal

pub write_nodes-requires-clause-within : goal.write_nodes-requires-clause-within
write_nodes-requires-clause-within c =
    rw c.deref.ensures.value (args_within c.args.self.now.nodes c.args.self.now.links c.find-last.result c.node.result.now c.in-App.f c.in-App.args c.requires.arena c.node.ensures c.in-App.is)

pub returns-in_ok-number-in-Var-clause-names : goal.returns-in_ok-number-in-Var-clause-names
returns-in_ok-number-in-Var-clause-names c =
    let is = last_var c.args.self.now.nodes c.args.self.now.links c.args.x c.find-last.result c.node.result.now c.in-Var.space c.in-Var.var c.requires.arena c.requires.solution c.find-last.ensures.within c.find-last.ensures.free c.find-last.ensures.alike c.node.ensures c.in-Var.is in
    c.in_ok-number-in-Var.ensures.names ∙ ap (λ z. first_ones (numbers c.args.names.now.keys) (term_variables z)) (sym is)

pub returns-in_ok-number-in-Var-clause-term : goal.returns-in_ok-number-in-Var-clause-term
returns-in_ok-number-in-Var-clause-term c later =
    let is = last_var c.args.self.now.nodes c.args.self.now.links c.args.x c.find-last.result c.node.result.now c.in-Var.space c.in-Var.var c.requires.arena c.requires.solution c.find-last.ensures.within c.find-last.ensures.free c.find-last.ensures.alike c.node.ensures c.in-Var.is in
    ap tree.Var (c.in_ok-number-in-Var.ensures.number later) ∙ ap (apply_term (by_place (numbers c.number.new.names.keys ++ later))) (sym is)

pub returns-in_ok-write_nodes-in-App-clause-names : goal.returns-in_ok-write_nodes-in-App-clause-names
returns-in_ok-write_nodes-in-App-clause-names c =
    let is = last_app c.args.self.now.nodes c.args.self.now.links c.args.x c.find-last.result c.node.result.now c.in-App.f c.in-App.args c.requires.arena c.requires.solution c.find-last.ensures.within c.find-last.ensures.free c.find-last.ensures.alike c.node.ensures c.in-App.is in
    (rw c.deref.ensures.value at c.in_ok-write_nodes-in-App.ensures.names) ∙ ap (λ z. first_ones (numbers c.args.names.now.keys) (term_variables z)) (sym is)

pub returns-in_ok-write_nodes-in-App-clause-term : goal.returns-in_ok-write_nodes-in-App-clause-term
returns-in_ok-write_nodes-in-App-clause-term c later =
    let is = last_app c.args.self.now.nodes c.args.self.now.links c.args.x c.find-last.result c.node.result.now c.in-App.f c.in-App.args c.requires.arena c.requires.solution c.find-last.ensures.within c.find-last.ensures.free c.find-last.ensures.alike c.node.ensures c.in-App.is in
    ap (tree.App c.in-App.f) (rw c.deref.ensures.value at (c.in_ok-write_nodes-in-App.ensures.terms later)) ∙ ap (apply_term (by_place (numbers c.write_nodes.new.names.keys ++ later))) (sym is)
