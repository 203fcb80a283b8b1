use Rattle.std.proofs.Common.{◌≡◌, length, sym, subst, ap, ◌∙◌, arith}
use Rattle.literal_index.specs.Index.{IndexValue, IsIndex}
use Rattle.candidate_store.specs.Kept.{FrameValue, is_close}
use Rattle.candidate_store.proofs.Stored.{not_true, prefix_long, prefix_pairs, prefix_index, prefix_frames, prefix_asserts, whole_frame, whole_asserts, some_frames}
use Rattle.candidate_store.proofs.store.Store.find.Goals as goal

pub frame-requires-clause-pairs : goal.frame-requires-clause-pairs
frame-requires-clause-pairs g c =
    let beside = rw (← c.self.view_is) at c.requires.beside in
    let more = rw (← c.self.view_is) at c.requires.more in
    let same : c.len-len.result ≡ length c.self.inside.frames.items = omega arith in
    prefix_pairs c.args.problem.now c.self.inside.bounds (g.V.View.context c.args.view.now) c.new-prefix.result c.self.inside.frames.items c.len-len.result same more c.new-prefix.ensures c.self.inside.pairs beside.pairs

pub frame-requires-clause-index : goal.frame-requires-clause-index
frame-requires-clause-index g c =
    let beside = rw (← c.self.view_is) at c.requires.beside in
    let more = rw (← c.self.view_is) at c.requires.more in
    let same : c.len-len.result ≡ length c.self.inside.frames.items = omega arith in
    let P : IndexValue → Type 0 = λ z. IsIndex c.new-prefix.result z in
    subst P (sym c.entries.ensures) (prefix_index c.args.problem.now c.self.inside.bounds (g.V.View.context c.args.view.now) c.new-prefix.result c.self.inside.frames.items c.len-len.result same more c.new-prefix.ensures c.self.inside.notes beside.notes)

pub frame-requires-clause-each : goal.frame-requires-clause-each
frame-requires-clause-each g c =
    let more = rw (← c.self.view_is) at c.requires.more in
    let same : c.len-len.result ≡ length c.self.inside.frames.items = omega arith in
    rw c.deref.ensures.value (prefix_long c.args.problem.now c.self.inside.bounds (g.V.View.context c.args.view.now) c.new-prefix.result c.self.inside.frames.items c.len-len.result same more c.new-prefix.ensures)

pub frame-requires-clause-frames : goal.frame-requires-clause-frames
frame-requires-clause-frames g c =
    let beside = rw (← c.self.view_is) at c.requires.beside in
    let more = rw (← c.self.view_is) at c.requires.more in
    let same : c.len-len.result ≡ length c.self.inside.frames.items = omega arith in
    rw c.deref.ensures.value (prefix_frames c.args.problem.now c.self.inside.bounds (g.V.View.context c.args.view.now) c.new-prefix.result c.self.inside.frames.items c.len-len.result same more c.new-prefix.ensures beside.frames)

pub frame-requires-clause-some : goal.frame-requires-clause-some
frame-requires-clause-some g c =
    let beside = rw (← c.self.view_is) at c.requires.beside in
    rw c.deref.ensures.value (some_frames c.args.problem.now c.self.inside.bounds _ c.self.inside.frames.items beside.some beside.frames)

pub frame-requires-clause-asserts : goal.frame-requires-clause-asserts
frame-requires-clause-asserts g c =
    let beside = rw (← c.self.view_is) at c.requires.beside in
    let more = rw (← c.self.view_is) at c.requires.more in
    let same : c.len-len.result ≡ length c.self.inside.frames.items = omega arith in
    rw c.deref.ensures.value (prefix_asserts c.args.problem.now c.self.inside.bounds (g.V.View.context c.args.view.now) c.new-prefix.result c.self.inside.frames.items c.len-len.result same more c.new-prefix.ensures c.self.inside.is_fresh c.self.inside.asserts beside.asserts)

pub returns-clause-frame : goal.returns-clause-frame
returns-clause-frame g c =
    let more = rw (← c.self.view_is) at c.requires.more in
    let same : c.len-len.result ≡ length c.self.inside.frames.items = omega arith in
    rw (← c.self.view_is) (whole_frame c.args.problem.now c.self.inside.bounds (g.V.View.context c.args.view.now) c.new-prefix.result c.self.inside.frames.items c.len-len.result same more c.new-prefix.ensures c.in_ok-frame.frame (rw c.deref.ensures.value at c.in_ok-frame.ensures.frame))

pub returns-clause-asserts : goal.returns-clause-asserts
returns-clause-asserts g c fresh =
    let more = rw (← c.self.view_is) at c.requires.more in
    let same : c.len-len.result ≡ length c.self.inside.frames.items = omega arith in
    let tells = c.is_closed.ensures ∙ ap (λ (z : FrameValue). is_close z.step) c.frame-2.view_is in
    let held = c.in_ok-frame.ensures.asserts (sym tells ∙ not_true c.is_closed.result fresh) in
    rw (← c.self.view_is) (whole_asserts c.args.problem.now c.self.inside.bounds (g.V.View.context c.args.view.now) c.new-prefix.result c.self.inside.frames.items c.len-len.result same more c.new-prefix.ensures c.frame.new.asserts held)
