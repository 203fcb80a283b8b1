use Rattle.std.proofs.Common.{List, sym, subst}
use Rattle.candidate_keys.specs.Keys.{UnifierKeyValue}
use Rattle.kept_asserts.proofs.Ranked.{where_none, where_some}
use Rattle.candidate_store.specs.Searches.{Keeps, HasKeyIn}
use Rattle.candidate_store.proofs.Collected.{keeps_all, keeps_push}
use Rattle.candidate_store.proofs.United.{key_put}
use Rattle.candidate_store.proofs.search.Search.with_key.Goals as goal

pub returns-in_default-clause-kept : goal.returns-in_default-clause-kept
returns-in_default-clause-kept g c = keeps_all c.args.keys.items

pub returns-in_default-clause-added : goal.returns-in_default-clause-added
returns-in_default-clause-added g c =
    λ clause f h. absurd (where_none c.in_ok-key.field-0 _ c.in_default.is c.in_ok-key.ensures.none clause f h)

pub returns-clause-kept : goal.returns-clause-kept
returns-clause-kept g c =
    let P : List UnifierKeyValue → Type 0 = λ z. Keeps c.args.keys.items z in
    subst P (sym c.in_ok-push.ensures.items) (keeps_push c.args.keys.items c.in-Some.key)

pub returns-clause-added : goal.returns-clause-added
returns-clause-added g c =
    let problem = c.args.self.now.problem.now in
    let bounds = c.args.self.now.bounds.now in
    let context = g.V.View.context c.args.self.now.view.now in
    let P : List UnifierKeyValue → Type 0 = λ z. HasKeyIn problem bounds context z c.args.index c.args.tuple.now.items in
    λ clause f h. subst P (sym c.in_ok-push.ensures.items) (key_put problem bounds context c.args.keys.items c.in-Some.key c.args.index c.args.tuple.now.items (where_some c.in_ok-key.field-0 c.in-Some.key _ c.in-Some.is c.in_ok-key.ensures.some))
