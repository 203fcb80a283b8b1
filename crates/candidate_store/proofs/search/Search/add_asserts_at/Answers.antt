use Rattle.std.proofs.Common.{ℕ, length, Option, ap, subst, arith}
use Rattle.std.specs.Prelude.{IfSome}
use Rattle.me_terms.specs.Values.{ClauseValue}
use Rattle.clause_pairs.proofs.Rows.{on_ok}
use Rattle.candidate_store.specs.Searches.{Beside, AssertsAt, HoldsAssertsIn, IsBareAt}
use Rattle.candidate_store.proofs.Collected.{keeps_on, beside_more, beside_all}
use Rattle.candidate_store.proofs.Unpaired.{asserts_leave_bare}
use Rattle.candidate_store.proofs.search.Search.add_asserts_at.Goals as goal

pub returns-in-Some-clause-added : goal.returns-in-Some-clause-added
returns-in-Some-clause-added g c =
    let a = c.args in
    let problem = a.self.now.problem.now in
    let bounds = a.self.now.bounds.now in
    let context = g.V.View.context a.self.now.view.now in
    let place = c.in-Some.place in
    let keys = c.add_asserts_beside.new.asserts in
    let P : Option ℕ → Type 0 = λ o. IfSome o (λ i. IsBareAt a.self.now.pairs.now.lists a.at.clause i) in
    let bare = subst P c.in-Some.is c.first_bare.ensures in
    on_ok c.add_asserts_beside.result (HoldsAssertsIn problem bounds context (Beside a.at place a.pivot) keys) (HoldsAssertsIn problem bounds context (AssertsAt a.at a.pivot) keys)
    (λ h. asserts_leave_bare problem context a.self.now.pairs.now c.requires.pairs bounds c.len-entries.ensures.is_context a.at a.pivot place keys bare h) c.add_asserts_beside.ensures.added

pub loop-place-preserved : goal.loop-place-preserved
loop-place-preserved g c =
    let i = c.loop-place.invariant in
    let keeps = c.in_ok-add_asserts_beside.ensures.kept in
    record {
      kept = keeps_on c.args.asserts.now c.loop-place.asserts c.add_asserts_beside-in-loop-place.new.asserts i.kept keeps;
      held = beside_more c.args.self.now.problem.now c.args.self.now.bounds.now (g.V.View.context c.args.self.now.view.now) c.args.at c.loop-place.place c.args.pivot c.loop-place.asserts c.add_asserts_beside-in-loop-place.new.asserts keeps i.held c.in_ok-add_asserts_beside.ensures.added;
    }

pub returns-clause-added : goal.returns-clause-added
returns-clause-added g c =
    let clause = c.clause-clause.result.now in
    beside_all c.args.self.now.problem.now c.args.self.now.bounds.now (g.V.View.context c.args.self.now.view.now) c.args.at c.loop-place.place c.args.pivot clause c.loop-place.asserts c.clause-clause.ensures
    (omega (arith, c.len-places.ensures, ap (λ (z : ClauseValue). length z.literals) c.clause.view_is)) c.loop-place.invariant.held
