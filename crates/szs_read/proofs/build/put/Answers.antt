use Rattle.std.proofs.Common.{◌∙◌, ap, sym, arith, List, ◌∷◌, map, reverse, take}
use Rattle.me_terms.specs.TermViews.{term_value}
use Rattle.me_terms.specs.Terms.{TermValue, App, arguments_of}
use Rattle.tptp_cnf.proofs.Stacks.{popped}
use Rattle.szs_read.specs.Rows.{nodes_of}
use Rattle.szs_read.specs.declared.number.Node.{Node}
use Rattle.szs_read.proofs.Nodes.{put_function, seen_length}
use Rattle.szs_read.proofs.build.put.Goals as goal

pub returns-in_ok-push-in-Function-clause-nodes : goal.returns-in_ok-push-in-Function-clause-nodes
returns-in_ok-push-in-Function-clause-nodes c = λ _.
    let f = c.in-Function.f in
    let n = c.in-Function.arity in
    let before : List TermValue = map term_value (reverse c.args.stack.now.items) in
    ap (λ (v : List TermValue). nodes_of (arguments_of v)) (
    popped _ _ _ c.in_ok-push-in-Function.ensures.items
    ∙ ap (λ (v : List TermValue). App f (arguments_of v) ∷ map term_value (reverse c.taken.new.stack.items)) c.in_ok-args-in-Function.ensures.arguments
    ∙ ap (λ (v : List TermValue). App f (arguments_of (take n before)) ∷ v) c.in_ok-args-in-Function.ensures.left
    )
    ∙ put_function f n before (omega (arith, seen_length c.args.stack.now.items, c.if-len-arity.false))
    ∙ ap (λ (v : Node). v ∷ nodes_of (arguments_of before)) (sym c.in-Function.is)
