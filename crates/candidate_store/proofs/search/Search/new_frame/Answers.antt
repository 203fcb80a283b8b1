use Rattle.std.proofs.Common.{◌≡◌, ◌-◌, ℕ, length, refl, sym, subst, Option, Some, None, arith}
use Rattle.me_terms.specs.Next.{NextValue, IsNext}
use Rattle.candidate_store.specs.Searches.{ClosingValue, WithPivot, FoundClose}
use Rattle.candidate_store.proofs.Wholes.{least_close, no_close, frame_again}
use Rattle.candidate_store.proofs.search.Search.new_frame.Goals as goal

pub returns-in-Some-clause-frame : goal.returns-in-Some-clause-frame
returns-in-Some-clause-frame g c =
    let problem = c.args.self.now.problem.now in
    let bounds = c.args.self.now.bounds.now in
    let whole = g.V.View.context c.args.self.now.view.now in
    let frames = c.args.frames.now in
    let n : c.len-newest.result - 1 ≡ length frames = omega (arith, c.len-newest.ensures.number, c.requires.each) in
    let T : Option ClosingValue → Type 0 = λ z. FoundClose problem whole (WithPivot (c.len-newest.result - 1)) z in
    let P : ℕ → Type 0 = λ z. FoundClose problem whole (WithPivot z) (Some c.in-Some.closing) in
    let least = least_close problem whole (length frames) c.requires.each c.in-Some.closing c.requires.open (subst P n (subst T c.in-Some.is c.in_ok-closing.ensures)) in
    let Q : NextValue → Type 0 = λ z. IsNext problem bounds whole z in
    frame_again problem whole (length frames) c.requires.each bounds frames refl c.requires.some c.requires.frames c.last_of.result.now c.last_of.ensures c.same_search.result _ c.same_search.ensures (subst Q (sym c.into_step.ensures) least)

pub open_frame-requires-clause-open : goal.open_frame-requires-clause-open
open_frame-requires-clause-open g c =
    let problem = c.args.self.now.problem.now in
    let bounds = c.args.self.now.bounds.now in
    let whole = g.V.View.context c.args.self.now.view.now in
    let frames = c.args.frames.now in
    let n : c.len-newest.result - 1 ≡ length frames = omega (arith, c.len-newest.ensures.number, c.requires.each) in
    let T : Option ClosingValue → Type 0 = λ z. FoundClose problem whole (WithPivot (c.len-newest.result - 1)) z in
    let P : ℕ → Type 0 = λ z. FoundClose problem whole (WithPivot z) None in
    no_close problem whole (length frames) c.requires.each c.requires.open (subst P n (subst T c.in_default.is c.in_ok-closing.ensures))
