use Rattle.std.proofs.Common.{sym, ◌∙◌}
use Rattle.problem_checks.specs.PlainTests.{predicate_numbers}
use Rattle.problem_checks.proofs.Walks.{each_some, each_none, each_all}
use Rattle.problem_checks.proofs.numbering.predicate_count.Goals as goal

pub loop-clause-preserved : goal.loop-clause-preserved
loop-clause-preserved c =
    c.loop-clause.invariant ∙ each_some (λ x. predicate_numbers x.literals) c.args.clauses.now c.loop-clause.clause-index c.clause-item.result c.loop-clause.number c.in-Some.next c.loop-clause-test.true c.clause-item.is c.in-Some.ensures

pub returns-in-None : goal.returns-in-None
returns-in-None c =
    sym (c.loop-clause.invariant ∙ each_none (λ x. predicate_numbers x.literals) c.args.clauses.now c.loop-clause.clause-index c.clause-item.result c.loop-clause.number c.loop-clause-test.true c.clause-item.is c.in-None.ensures)

pub returns : goal.returns
returns c = sym (c.loop-clause.invariant ∙ each_all (λ x. predicate_numbers x.literals) c.args.clauses.now c.loop-clause.clause-index c.loop-clause.number c.loop-clause-test.false)
