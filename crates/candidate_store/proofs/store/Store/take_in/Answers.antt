use Rattle.std.proofs.Common.{◌≡◌, ℕ, length, take, slice_get, Some, sym, subst, ap, ◌∙◌, refl, arith}
use Rattle.me_terms.specs.Context.{Context, add}
use Rattle.candidate_store.specs.Notes.{AreNotes}
use Rattle.candidate_store.proofs.Stored.{any_err, noted}
use Rattle.candidate_store.proofs.store.Store.take_in.Goals as goal

pub returns-in_err-enter-clause-err : goal.returns-in_err-enter-clause-err
returns-in_err-enter-clause-err g c =
    let kept = rw (← c.self.view_is) at c.requires.kept in
    any_err c.from_residual.result _ (rw (← c.self.view_is) (record { some = kept.some; notes = kept.notes; pairs = c.in_err-enter.ensures.err _ kept.pairs; frames = kept.frames; asserts = kept.asserts }, refl))

pub returns-in-Ok-clause-ok : goal.returns-in-Ok-clause-ok
returns-in-Ok-clause-ok g c =
    let problem = c.args.problem.now in
    let whole = g.V.View.context c.args.view.now in
    let kept = rw (← c.self.view_is) at c.requires.kept in
    let n = length c.self.inside.frames.items in
    let e = c.in-Some.entry.now in
    let P : ℕ → Type 0 = λ z. slice_get whole z ≡ Some e in
    let same : c.len-len.result ≡ length c.self.inside.frames.items = omega arith in
    let at = subst P same (sym c.in-Some.ensures.item) in
    let Q : Context → Type 0 = λ z. AreNotes (add z e) c.add.new.self in
    let notes = subst Q (c.new.ensures ∙ ap (λ (z : ℕ). take z whole) same) c.in-Ok.ensures.ok in
    rw (← c.self.view_is) (noted problem whole n e at _ _ refl notes (c.in_ok-enter.ensures.ok _ kept.pairs) refl)

pub returns-in-Err-clause-err : goal.returns-in-Err-clause-err
returns-in-Err-clause-err g c =
    let problem = c.args.problem.now in
    let whole = g.V.View.context c.args.view.now in
    let kept = rw (← c.self.view_is) at c.requires.kept in
    let n = length c.self.inside.frames.items in
    let context = take n whole in
    let same : c.len-len.result ≡ length c.self.inside.frames.items = omega arith in
    let P : Context → Type 0 = λ z. AreNotes z c.add.new.self in
    let notes = subst P (c.new.ensures ∙ ap (λ (z : ℕ). take z whole) same) c.in-Err.ensures.err in
    rw (← c.self.view_is) (record { some = kept.some; notes = notes; pairs = c.leave.ensures problem context _ (c.in_ok-enter.ensures.ok _ kept.pairs) kept.some; frames = kept.frames; asserts = kept.asserts }, refl)
