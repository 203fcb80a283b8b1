use Rattle.std.proofs.Common.{◌∙◌, ℕ, List, Option, Some, None, sym, subst, arith}
use Rattle.me_terms.specs.Terms.{TermValue, arguments_of}
use Rattle.me_terms.specs.Sequences.{SequenceValue}
use Rattle.szs_read.specs.Finds.{FindsTerms}
use Rattle.szs_read.specs.declared.number.Node.{Node}
use Rattle.szs_read.proofs.Finding.{FindsPredicate, nodes_some, nodes_none, no_nodes, no_terms, too_deep, literal_is}
use Rattle.szs_read.proofs.Grown.{literal_read}
use Rattle.szs_read.proofs.Nodes.{count_is, capped_under}
use Rattle.szs_read.proofs.Symbols.{if_some}
use Rattle.szs_read.proofs.literal.literal_of.Goals as goal

pub returns-clause-read : goal.returns-clause-read
returns-clause-read c =
    literal_read c.args.signature.now c.number_predicate.new.signature c.number_items.new.signature c.args.row.now.positive c.in-Some-2.pred c.in-Some.first.now.arity (arguments_of c.in-Some-4.args.items) c.args.brackets c.in-Some-3.nodes.items
    (if_some _ _ _ c.in-Some-2.is c.in_ok-pred.ensures.number) c.in_ok-pred.ensures.functions
    (if_some _ _ _ c.in-Some-3.is c.in_ok-nodes.ensures.numbers) c.in_ok-nodes.ensures.predicates
    (if_some _ _ _ c.in-Some-4.is c.in_ok-args.ensures.nodes ∙ c.deref-2.ensures.value) (count_is _ ∙ if_some _ _ _ c.in-Some-4.is c.in_ok-args.ensures.count)
    (capped_under _ _ _ c.depth_of.ensures c.requires.brackets (omega (arith, c.if-depth_of-brackets.false)))

pub returns-in_default-3-clause-same : goal.returns-in_default-3-clause-same
returns-in_default-3-clause-same c =
    no_nodes c.args.signature.now c.number_predicate.new.signature c.number_items.new.signature c.args.brackets c.args.row.now c.in-Some.first.now c.in-Some.others.now
    (sym c.deref.ensures.value ∙ c.in-Some.ensures.cases.0) c.in_ok-pred.ensures.functions (nodes_none _ c.number_predicate.new.signature c.number_items.new.signature c.in-Some.others.now _ c.in_default-3.is c.in_ok-nodes.ensures.nodes)

pub returns-in_default-4-clause-same : goal.returns-in_default-4-clause-same
returns-in_default-4-clause-same c =
    no_terms c.args.signature.now c.number_predicate.new.signature c.number_items.new.signature c.args.brackets c.args.row.now c.in-Some.first.now c.in-Some.others.now c.in-Some-3.nodes.items
    (sym c.deref.ensures.value ∙ c.in-Some.ensures.cases.0) c.in_ok-pred.ensures.functions (nodes_some _ c.number_predicate.new.signature c.number_items.new.signature c.in-Some.others.now _ c.in-Some-3.nodes c.in-Some-3.is c.in_ok-nodes.ensures.nodes)
    (subst (λ (v : List Node). FindsTerms v c.in-Some.first.now.arity None) c.deref-2.ensures.value
    (subst (λ (o : Option (SequenceValue TermValue)). FindsTerms c.deref-2.result.now c.in-Some.first.now.arity o) c.in_default-4.is c.in_ok-args.ensures.same))

pub returns-then-depth_of-brackets-clause-same : goal.returns-then-depth_of-brackets-clause-same
returns-then-depth_of-brackets-clause-same c =
    too_deep c.args.signature.now c.number_predicate.new.signature c.number_items.new.signature c.args.brackets c.args.row.now c.in-Some.first.now c.in-Some.others.now c.in-Some-3.nodes.items c.in-Some-4.args _
    (sym c.deref.ensures.value ∙ c.in-Some.ensures.cases.0) c.in_ok-pred.ensures.functions (nodes_some _ c.number_predicate.new.signature c.number_items.new.signature c.in-Some.others.now _ c.in-Some-3.nodes c.in-Some-3.is c.in_ok-nodes.ensures.nodes)
    (subst (λ (v : List Node). FindsTerms v c.in-Some.first.now.arity (Some c.in-Some-4.args)) c.deref-2.ensures.value
    (subst (λ (o : Option (SequenceValue TermValue)). FindsTerms c.deref-2.result.now c.in-Some.first.now.arity o) c.in-Some-4.is c.in_ok-args.ensures.same))
    c.depth_of.ensures (omega (arith, c.if-depth_of-brackets.true))

pub returns-clause-same : goal.returns-clause-same
returns-clause-same c =
    literal_is c.args.signature.now c.number_predicate.new.signature c.number_items.new.signature c.args.brackets c.args.row.now c.in-Some.first.now c.in-Some.others.now c.in-Some-2.pred c.in-Some-3.nodes.items c.in-Some-4.args
    (sym c.deref.ensures.value ∙ c.in-Some.ensures.cases.0)
    (subst (λ (o : Option ℕ). FindsPredicate c.args.signature.now c.number_predicate.new.signature c.in-Some.first.now o) c.in-Some-2.is c.in_ok-pred.ensures.added)
    c.in_ok-pred.ensures.functions c.in_ok-nodes.ensures.predicates (nodes_some _ c.number_predicate.new.signature c.number_items.new.signature c.in-Some.others.now _ c.in-Some-3.nodes c.in-Some-3.is c.in_ok-nodes.ensures.nodes)
    (subst (λ (v : List Node). FindsTerms v c.in-Some.first.now.arity (Some c.in-Some-4.args)) c.deref-2.ensures.value
    (subst (λ (o : Option (SequenceValue TermValue)). FindsTerms c.deref-2.result.now c.in-Some.first.now.arity o) c.in-Some-4.is c.in_ok-args.ensures.same))
