use Rattle.std.proofs.Common.{length, refl}
use Rattle.candidate_store.proofs.Wholes.{frame_again}
use Rattle.candidate_store.proofs.search.Search.whole_frame.Goals as goal

pub returns-clause-frame : goal.returns-clause-frame
returns-clause-frame g c =
    let frames = c.args.frames.now in
    frame_again c.args.self.now.problem.now (g.V.View.context c.args.self.now.view.now) (length frames) c.requires.each c.args.self.now.bounds.now frames refl c.requires.some c.requires.frames c.last_of.result.now c.last_of.ensures c.same_search.result _ c.same_search.ensures c.in_ok-step.ensures.next
