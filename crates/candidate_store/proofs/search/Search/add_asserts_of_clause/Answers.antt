use Rattle.std.proofs.Common.{length, ap, arith}
use Rattle.me_terms.specs.Values.{ClauseValue}
use Rattle.candidate_store.proofs.Collected.{keeps_on, by_more, by_all}
use Rattle.candidate_store.proofs.search.Search.add_asserts_of_clause.Goals as goal

pub loop-place-preserved : goal.loop-place-preserved
loop-place-preserved g c =
    let i = c.loop-place.invariant in
    let keeps = c.in_ok-add_asserts_of_place.ensures.kept in
    record {
      kept = keeps_on c.args.asserts.now c.loop-place.asserts c.add_asserts_of_place.new.asserts i.kept keeps;
      held = by_more c.args.self.now.problem.now c.args.self.now.bounds.now (g.V.View.context c.args.self.now.view.now) c.args.index c.loop-place.place c.loop-place.asserts c.add_asserts_of_place.new.asserts keeps i.held c.in_ok-add_asserts_of_place.ensures.added;
    }

pub returns-clause-added : goal.returns-clause-added
returns-clause-added g c =
    let clause = c.clause-clause.result.now in
    by_all c.args.self.now.problem.now c.args.self.now.bounds.now (g.V.View.context c.args.self.now.view.now) c.args.index c.loop-place.place clause c.loop-place.asserts c.clause-clause.ensures
    (omega (arith, c.len-places.ensures, ap (λ (z : ClauseValue). length z.literals) c.clause.view_is)) c.loop-place.invariant.held
