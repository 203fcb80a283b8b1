use Rattle.std.proofs.Common.{◌+◌, ℕ, length, take, sym, subst, ap, ◌∙◌, arith}
use Rattle.me_terms.specs.Validity.{IsLawful}
use Rattle.me_terms.specs.declared.bounds.Bounds.{Bounds}
use Rattle.me_terms.specs.declared.bounds.TheConstants.{MAX_ENTRIES}
use Rattle.candidate_store.specs.Kept.{IsBeside}
use Rattle.candidate_store.proofs.Stored.{noted_beside, noted_frames, noted_bounds, entered, forgotten, to_forget}
use Rattle.candidate_store.proofs.Wholes.{entry_at}
use Rattle.candidate_store.proofs.store.Store.enter.Goals as goal

pub take_in-requires-clause-kept : goal.take_in-requires-clause-kept
take_in-requires-clause-kept g c = c.requires.stands.2.kept

pub add_frame-requires-clause-bounds : goal.add_frame-requires-clause-bounds
add_frame-requires-clause-bounds g c =
    let old = c.args.self.now in
    let whole = g.V.View.context c.args.view.now in
    let P : Bounds → Type 0 = λ z. IsLawful z in
    subst P (sym (noted_bounds c.args.problem.now (take (length old.frames + 1) whole) old c.take_in.new.self c.in_ok-take_in.ensures.ok ∙ c.requires.stands.2.same_bounds)) c.requires.stands.1

pub add_frame-requires-clause-beside : goal.add_frame-requires-clause-beside
add_frame-requires-clause-beside g c =
    let problem = c.args.problem.now in
    let old = c.args.self.now in
    let new = c.take_in.new.self in
    let whole = g.V.View.context c.args.view.now in
    let noted = c.in_ok-take_in.ensures.ok in
    let same = ap length (noted_frames problem (take (length old.frames + 1) whole) old new noted) in
    let P : ℕ → Type 0 = λ z. IsBeside problem (take z whole) (take (z + 1) whole) new in
    subst P (sym same) (noted_beside problem (take (length old.frames) whole) (take (length old.frames + 1) whole) old new c.requires.stands.2.kept noted)

pub add_frame-requires-clause-more : goal.add_frame-requires-clause-more
add_frame-requires-clause-more g c =
    let old = c.args.self.now in
    let whole = g.V.View.context c.args.view.now in
    let same = ap length (noted_frames c.args.problem.now (take (length old.frames + 1) whole) old c.take_in.new.self c.in_ok-take_in.ensures.ok) in
    omega (arith, same, c.requires.more)

pub returns-in-Ok-clause-ok : goal.returns-in-Ok-clause-ok
returns-in-Ok-clause-ok g c bounds stands =
    entered c.args.problem.now bounds (g.V.View.context c.args.view.now) c.args.self.now c.take_in.new.self c.add_frame.new.self stands c.in_ok-take_in.ensures.ok c.in-Ok.ensures.bounds c.in-Ok.ensures.ok

pub take_out-requires : goal.take_out-requires
take_out-requires g c =
    let whole = g.V.View.context c.args.view.now in
    let e = entry_at whole (length c.args.self.now.frames) c.requires.more in
    let err = c.in-Err.ensures.err in
    record { fits = to_forget c.args.problem.now c.requires.stands.0 whole e.0 c.args.self.now c.take_in.new.self c.add_frame.new.self MAX_ENTRIES e.1 c.requires.stands.2 c.in_ok-take_in.ensures.ok err.0 err.1 c.len-entries.ensures.few }

pub returns-in-Err-clause-err : goal.returns-in-Err-clause-err
returns-in-Err-clause-err g c bounds stands =
    let whole = g.V.View.context c.args.view.now in
    let e = entry_at whole (length c.args.self.now.frames) c.requires.more in
    let err = c.in-Err.ensures.err in
    let out = c.take_out.ensures in
    forgotten c.args.problem.now bounds whole e.0 c.args.self.now c.take_in.new.self c.add_frame.new.self c.take_out.new.self e.1 stands c.in_ok-take_in.ensures.ok err.0 err.1 err.2 c.in-Err.ensures.bounds out.notes out.pairs out.frames out.bounds out.stale
