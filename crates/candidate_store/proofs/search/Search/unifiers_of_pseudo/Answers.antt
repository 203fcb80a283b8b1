use Rattle.std.proofs.Common.{length, ap, arith}
use Rattle.me_terms.specs.Values.{ProblemValue}
use Rattle.candidate_store.proofs.United.{pseudo_more, pseudo_all}
use Rattle.candidate_store.proofs.search.Search.unifiers_of_pseudo.Goals as goal

pub loop-clause-preserved : goal.loop-clause-preserved
loop-clause-preserved g c =
    pseudo_more c.args.self.now.problem.now c.args.self.now.bounds.now (g.V.View.context c.args.self.now.view.now) c.loop-clause.clause c.loop-clause.keys.items c.in_ok-keys.keys.items c.in_ok-keys.ensures.kept c.loop-clause.invariant c.in_ok-keys.ensures.added

pub returns : goal.returns
returns g c =
    pseudo_all c.args.self.now.problem.now c.args.self.now.bounds.now (g.V.View.context c.args.self.now.view.now) c.loop-clause.clause c.loop-clause.keys.items
    (omega (arith, c.len-clauses.ensures, ap (λ (z : ProblemValue). length z.clauses) c.problem.view_is)) c.loop-clause.invariant
