use Rattle.std.proofs.Common.{ap, ◌∙◌}
use Rattle.clause_pairs.proofs.Rows.{on_ok, on_err}
use Rattle.candidate_store.specs.Kept.{StoreValue}
use Rattle.candidate_store.proofs.Stored.{frame_kept}
use Rattle.candidate_store.proofs.store.Store.add_frame.Goals as goal

pub returns-clause-bounds : goal.returns-clause-bounds
returns-clause-bounds g c = c.keep.ensures.bounds ∙ c.in_ok-frame.ensures.same.3

pub returns-clause-ok : goal.returns-clause-ok
returns-clause-ok g c =
    let h = c.in_ok-frame.ensures in
    on_ok c.keep.result _ _
    (λ is. frame_kept c.args.problem.now (g.V.View.context c.args.view.now) c.args.self.now c.find.new.self c.keep.new.self c.in_ok-frame.frame c.requires.more c.requires.beside h.frame h.same.0 h.same.1 h.same.2 h.same.3 h.asserts is)
    c.keep.ensures.ok

pub returns-clause-err : goal.returns-clause-err
returns-clause-err g c =
    let same = c.in_ok-frame.ensures.same in
    on_err c.keep.result _ _
    (λ is. (ap (λ (z : StoreValue). z.notes) is ∙ same.0, ap (λ (z : StoreValue). z.pairs) is ∙ same.1, ap (λ (z : StoreValue). z.frames) is ∙ same.2))
    c.keep.ensures.err
