use Rattle.candidate_store.proofs.Found.{not_joint, unifying, not_productive, productive_of}
use Rattle.candidate_store.proofs.search.Search.productive.Goals as goal

pub returns-in_default-clause-none : goal.returns-in_default-clause-none
returns-in_default-clause-none g c =
    not_joint c.args.self.now.problem.now (g.V.View.context c.args.self.now.view.now) c.args.index c.clause-clause.result.now c.args.tuple.now.items c.clause-clause.ensures c.in_ok-unifier.field-0 c.in_ok-unifier.ensures.exact c.in_default.is

pub is_productive-requires-clause-unifier : goal.is_productive-requires-clause-unifier
is_productive-requires-clause-unifier g c =
    (unifying c.args.self.now.problem.now (g.V.View.context c.args.self.now.view.now) c.args.index c.clause-clause.result.now c.args.tuple.now.items c.clause-clause.ensures c.in_ok-unifier.field-0 c.in_ok-unifier.ensures.exact c.in-Some.unifier c.in-Some.is c.in_ok-unifier.ensures.unifier).of

pub is_productive-requires-clause-opposite : goal.is_productive-requires-clause-opposite
is_productive-requires-clause-opposite g c =
    (unifying c.args.self.now.problem.now (g.V.View.context c.args.self.now.view.now) c.args.index c.clause-clause.result.now c.args.tuple.now.items c.clause-clause.ensures c.in_ok-unifier.field-0 c.in_ok-unifier.ensures.exact c.in-Some.unifier c.in-Some.is c.in_ok-unifier.ensures.unifier).unifier.opposite

pub returns-then-not-branch-clause-none : goal.returns-then-not-branch-clause-none
returns-then-not-branch-clause-none g c =
    not_productive c.args.self.now.problem.now (g.V.View.context c.args.self.now.view.now) c.args.index c.clause-clause.result.now c.args.tuple.now.items c.clause-clause.ensures c.in_ok-unifier.field-0 c.in_ok-unifier.ensures.exact c.in-Some.unifier c.in-Some.is c.in_ok-unifier.ensures.unifier _ c.in_ok-is_productive.ensures c.if-not-branch.true

pub returns-clause-some : goal.returns-clause-some
returns-clause-some g c =
    productive_of c.args.self.now.problem.now (g.V.View.context c.args.self.now.view.now) c.args.index c.clause-clause.result.now c.args.tuple.now.items c.clause-clause.ensures c.in_ok-unifier.field-0 c.in_ok-unifier.ensures.exact c.in-Some.unifier c.in-Some.is c.in_ok-unifier.ensures.unifier _ c.in_ok-is_productive.ensures c.if-not-branch.false
