use Rattle.candidate_store.proofs.Closed.{closes_more, closes_whole}
use Rattle.candidate_store.proofs.Wholes.{closes_all, place_clause_at}
use Rattle.candidate_store.proofs.search.Search.closing.Goals as goal

pub loop-at-preserved : goal.loop-at-preserved
loop-at-preserved g c =
    closes_more c.args.self.now.problem.now (g.V.View.context c.args.self.now.view.now) c.places_of-places.result.now c.loop-at.at-index c.args.pivot _ c.loop-at.best c.in_ok-next.next c.first_of-best.result c.loop-at-test.true c.loop-at.invariant c.in_ok-next.ensures c.first_of-best.ensures

pub closing_at-requires-clause-clause : goal.closing_at-requires-clause-clause
closing_at-requires-clause-clause g c =
    place_clause_at c.args.self.now.problem.now (g.V.View.context c.args.self.now.view.now) c.args.self.now.pairs.now c.requires.pairs c.args.pivot c.requires.literal c.places_of-places.result.now c.places_of-places.ensures c.loop-at.at-index _ c.requires.within c.loop-at-test.true

pub returns : goal.returns
returns g c =
    let problem = c.args.self.now.problem.now in
    let context = g.V.View.context c.args.self.now.view.now in
    let qs = c.places_of-places.result.now in
    closes_all problem context c.args.self.now.pairs.now c.requires.pairs c.args.pivot c.requires.literal qs c.places_of-places.ensures c.loop-at.best
    (closes_whole problem context qs c.loop-at.at-index c.args.pivot c.loop-at.best c.loop-at-test.false c.loop-at.invariant)
