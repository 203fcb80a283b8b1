use Rattle.candidate_store.proofs.Collected.{keeps_on, asserts_more, asserts_whole}
use Rattle.candidate_store.proofs.Wholes.{asserts_all, place_clause_at}
use Rattle.candidate_store.proofs.search.Search.add_asserts_with.Goals as goal

pub loop-at-preserved : goal.loop-at-preserved
loop-at-preserved g c =
    let i = c.loop-at.invariant in
    let keeps = c.in_ok-add_asserts_at.ensures.kept in
    record {
      kept = keeps_on c.args.asserts.now c.loop-at.asserts c.add_asserts_at.new.asserts i.kept keeps;
      held = asserts_more c.args.self.now.problem.now c.args.self.now.bounds.now (g.V.View.context c.args.self.now.view.now) c.places_of-places.result.now c.loop-at.at-index c.args.pivot _ c.loop-at.asserts c.add_asserts_at.new.asserts c.loop-at-test.true keeps i.held c.in_ok-add_asserts_at.ensures.added;
    }

pub add_asserts_at-requires-clause-clause : goal.add_asserts_at-requires-clause-clause
add_asserts_at-requires-clause-clause g c =
    place_clause_at c.args.self.now.problem.now (g.V.View.context c.args.self.now.view.now) c.args.self.now.pairs.now c.requires.pairs c.args.pivot c.requires.literal c.places_of-places.result.now c.places_of-places.ensures c.loop-at.at-index _ c.requires.within c.loop-at-test.true

pub returns-clause-added : goal.returns-clause-added
returns-clause-added g c =
    let problem = c.args.self.now.problem.now in
    let bounds = c.args.self.now.bounds.now in
    let context = g.V.View.context c.args.self.now.view.now in
    let qs = c.places_of-places.result.now in
    asserts_all problem context c.args.self.now.pairs.now c.requires.pairs c.args.pivot c.requires.literal qs c.places_of-places.ensures bounds c.loop-at.asserts
    (asserts_whole problem bounds context qs c.loop-at.at-index c.args.pivot c.loop-at.asserts c.loop-at-test.false c.loop-at.invariant.held)
