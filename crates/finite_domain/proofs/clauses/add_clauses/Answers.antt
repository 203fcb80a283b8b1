use Rattle.std.proofs.Common.{List, ap, ◌∙◌, arith}
use Rattle.me_terms.specs.declared.atom.Literal.{Literal}
use Rattle.finite_domain.specs.Flat.{flat_literals}
use Rattle.finite_domain.proofs.Making.{own_length, own_more}
use Rattle.finite_domain.proofs.clauses.add_clauses.Goals as goal

pub push_clause-requires : goal.push_clause-requires
push_clause-requires c =
    let less = c.clauses-test.true in
    let count = own_length c.args.relations c.clauses.clause-index c.args.order.now.keys c.args.clauses.now c.args.made.now.items c.clauses.made.items c.requires.made c.clauses.invariant (omega (arith, less)) in
    let few = c.requires.relations in
    let most = c.requires.clauses in
    omega (arith, count, few, most, less)

pub clauses-preserved : goal.clauses-preserved
clauses-preserved c =
    own_more c.args.relations c.clauses.clause-index c.args.order.now.keys c.args.clauses.now c.clause-item.result c.args.made.now.items c.clauses.made.items c.push_clause.new.clauses.items c.in_ok-literals.literals.items c.requires.made c.clauses.invariant c.clauses-test.true c.clause-item.is
    (c.in_ok-literals.ensures ∙ ap (λ (ls : List Literal). flat_literals c.args.relations c.args.order.now.keys ls) c.literals_of.ensures) c.in_ok-push_clause.ensures
