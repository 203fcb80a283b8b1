use Rattle.std.proofs.Common.{List, length, refl, ap, subst, ◌∙◌}
use Rattle.std.proofs.lemmas.Option.{slice_get_read}
use Rattle.candidate_keys.specs.Keys.{UnifierKeyValue}
use Rattle.candidate_store.specs.Kept.{FrameValue}
use Rattle.candidate_store.specs.Firsts.{AreMet}
use Rattle.candidate_store.proofs.MetKeys.{frames_none, frames_met, frames_all, meets_itself, meets_on}
use Rattle.candidate_store.proofs.search.Search.first_of_frames.Goals as goal

pub loop-frame-init : goal.loop-frame-init
loop-frame-init g c =
    let problem = c.args.self.now.problem.now in
    let bounds = c.args.self.now.bounds.now in
    let context = g.V.View.context c.args.self.now.view.now in
    record {
      right = c.requires.right;
      more = meets_itself problem bounds context c.args.best;
      met = frames_none problem bounds context c.args.frames.now c.args.best;
    }

pub loop-frame-preserved : goal.loop-frame-preserved
loop-frame-preserved g c =
    let problem = c.args.self.now.problem.now in
    let bounds = c.args.self.now.bounds.now in
    let context = g.V.View.context c.args.self.now.view.now in
    let i = c.loop-frame.invariant in
    let h = c.in_ok-best.ensures in
    let frames = c.args.frames.now in
    let frame = c.frame-item.result in
    let same = c.deref.ensures.value ∙ ap (λ (z : FrameValue). z.unifiers) c.frame.view_is in
    let P : List UnifierKeyValue → Type 0 = λ z. AreMet problem bounds context z c.in_ok-best.best in
    let at = slice_get_read frames (length frames) c.loop-frame.frame-index frame refl c.loop-frame-test.true c.frame-item.is in
    record {
      right = h.right;
      more = meets_on problem bounds context c.args.best c.loop-frame.best c.in_ok-best.best i.more h.more;
      met = frames_met problem bounds context frames c.loop-frame.frame-index frame c.loop-frame.best c.in_ok-best.best at h.more i.met (subst P same h.met);
    }

pub returns-clause-met : goal.returns-clause-met
returns-clause-met g c =
    frames_all c.args.self.now.problem.now c.args.self.now.bounds.now (g.V.View.context c.args.self.now.view.now) c.args.frames.now c.loop-frame.frame-index c.loop-frame.best c.loop-frame-test.false c.loop-frame.invariant.met
