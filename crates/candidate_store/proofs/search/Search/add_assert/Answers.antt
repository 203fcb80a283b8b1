use Rattle.clause_pairs.proofs.Rows.{on_ok}
use Rattle.kept_asserts.proofs.Ranked.{where_none, where_some}
use Rattle.candidate_store.proofs.Asserted.{key_added, key_kept}
use Rattle.candidate_store.proofs.search.Search.add_assert.Goals as goal

pub returns-in_default-clause-added : goal.returns-in_default-clause-added
returns-in_default-clause-added g c =
    λ e h. absurd (where_none c.in_ok-found.found _ c.in_default.is c.in_ok-found.ensures.none c.args.self.now.problem.now e c.requires.clause_at h)

pub returns-clause-kept : goal.returns-clause-kept
returns-clause-kept g c =
    on_ok c.add.result _ _ (λ is. key_kept c.args.asserts.now c.add.new.self c.in_ok-key.key is) c.add.ensures.ok

pub returns-clause-added : goal.returns-clause-added
returns-clause-added g c =
    let a = c.args in
    let problem = a.self.now.problem.now in
    let found = where_some c.in_ok-found.found c.in-Some.candidate _ c.in-Some.is c.in_ok-found.ensures.some in
    on_ok c.add.result _ _
    (λ is. key_added problem a.self.now.bounds.now (g.V.View.context a.self.now.view.now) a.index a.place a.tuple.now.items a.asserts.now c.add.new.self c.in_ok-key.key c.in-Some.candidate is (found problem c.requires.clause_at) c.in_ok-key.ensures)
    c.add.ensures.ok
