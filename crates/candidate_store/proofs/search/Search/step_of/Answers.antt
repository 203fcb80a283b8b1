use Rattle.std.proofs.Common.{sym, subst, ap}
use Rattle.me_terms.specs.Next.{NextValue, IsNext}
use Rattle.candidate_store.specs.Firsts.{FoundValue}
use Rattle.candidate_store.proofs.MetKeys.{best_is_next, none_is_next}
use Rattle.candidate_store.proofs.search.Search.step_of.Goals as goal

pub returns-in-Some : goal.returns-in-Some
returns-in-Some g c =
    let problem = c.args.self.now.problem.now in
    let bounds = c.args.self.now.bounds.now in
    let context = g.V.View.context c.args.self.now.view.now in
    let P : NextValue → Type 0 = λ z. IsNext problem bounds context z in
    subst P (sym (ap (λ (z : FoundValue). z.step) c.found.view_is)) (best_is_next problem bounds context c.requires.open c.requires.no_assert c.args.best c.requires.right c.requires.met c.in-Some.found c.in-Some.is)

pub returns-in-None : goal.returns-in-None
returns-in-None g c =
    none_is_next c.args.self.now.problem.now c.args.self.now.bounds.now (g.V.View.context c.args.self.now.view.now) c.requires.open c.requires.no_assert c.args.best c.requires.right c.requires.met c.in-None.is
