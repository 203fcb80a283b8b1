use Rattle.candidate_store.proofs.Collected.{beside_itself}
use Rattle.candidate_store.proofs.search.Search.add_asserts_beside.Goals as goal

pub returns-then-place-at-clause-added : goal.returns-then-place-at-clause-added
returns-then-place-at-clause-added g c =
    beside_itself c.args.self.now.problem.now c.args.self.now.bounds.now (g.V.View.context c.args.self.now.view.now) c.args.at c.args.place c.args.pivot c.args.asserts.now c.if-place-at.true
