use Rattle.candidate_store.proofs.Found.{key_of}
use Rattle.kept_asserts.proofs.Ranked.{where_some, where_none}
use Rattle.candidate_store.proofs.search.Search.productive_key.Goals as goal

pub returns-in_default-clause-none : goal.returns-in_default-clause-none
returns-in_default-clause-none g c = where_none c.in_ok-unifier.field-0 _ c.in_default.is c.in_ok-unifier.ensures.none

pub returns-clause-some : goal.returns-clause-some
returns-clause-some g c =
    key_of c.args.self.now.problem.now (g.V.View.context c.args.self.now.view.now) c.args.index c.args.tuple.now.items c.in-Some.unifier
    (where_some c.in_ok-unifier.field-0 c.in-Some.unifier _ c.in-Some.is c.in_ok-unifier.ensures.some)
    c.args.self.now.bounds.now c.split_of-choice.result c.split_of-choice.ensures.rule c.in_ok-key.key c.in_ok-key.ensures
