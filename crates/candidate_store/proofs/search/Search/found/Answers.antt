use Rattle.std.proofs.Common.{subst}
use Rattle.std.specs.Prelude.{IfOk}
use Rattle.me_terms.specs.Substitutions.{Family}
use Rattle.me_terms.specs.Values.{ClauseValue}
use Rattle.me_terms.specs.Productive.{IsProductiveUnifier}
use Rattle.candidate_keys.specs.Keys.{UnifierKeyValue}
use Rattle.candidate_store.specs.Firsts.{IsMet}
use Rattle.candidate_store.proofs.search.Search.found.Goals as goal

pub returns-clause-met : goal.returns-clause-met
returns-clause-met g c =
    let problem = c.args.self.now.problem.now in
    let bounds = c.args.self.now.bounds.now in
    let context = g.V.View.context c.args.self.now.view.now in
    let P : UnifierKeyValue → Type 0 = λ z. IfOk c.found_at.result (λ found. (clause : ClauseValue) (f : Family) → IsProductiveUnifier problem context z.clause z.tuple clause f → IsMet problem bounds context found z.clause z.tuple) in
    subst P c.key.view_is c.found_at.ensures.met
