use Rattle.std.proofs.Common.{length, ap, arith}
use Rattle.me_terms.specs.Values.{ProblemValue}
use Rattle.candidate_store.proofs.Collected.{in_more, in_all}
use Rattle.candidate_store.proofs.search.Search.add_all_asserts.Goals as goal

pub loop-clause-preserved : goal.loop-clause-preserved
loop-clause-preserved g c =
    in_more c.args.self.now.problem.now c.args.self.now.bounds.now (g.V.View.context c.args.self.now.view.now) c.loop-clause.clause c.loop-clause.asserts c.add_asserts_of_clause.new.asserts c.in_ok-add_asserts_of_clause.ensures.kept c.loop-clause.invariant c.in_ok-add_asserts_of_clause.ensures.added

pub returns : goal.returns
returns g c =
    in_all c.args.self.now.problem.now c.args.self.now.bounds.now (g.V.View.context c.args.self.now.view.now) c.loop-clause.clause c.loop-clause.asserts
    (omega (arith, c.len-clauses.ensures, ap (λ (z : ProblemValue). length z.clauses) c.problem.view_is)) c.loop-clause.invariant
