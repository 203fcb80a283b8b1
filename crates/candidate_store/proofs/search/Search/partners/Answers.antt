use Rattle.std.proofs.Common.{◌≡◌, refl}
use Rattle.clause_pairs.specs.Values.{numbers_of}
use Rattle.candidate_store.proofs.Unpaired.{are_partners}
use Rattle.candidate_store.proofs.search.Search.partners.Goals as goal

pub returns : goal.returns
returns g c k at =
    are_partners c.args.self.now.problem.now (g.V.View.context c.args.self.now.view.now) c.args.self.now.pairs.now c.requires.pairs c.args.clause k at (numbers_of c.of_clause.result.now) c.of_clause.ensures c.of_clause.result.now refl
