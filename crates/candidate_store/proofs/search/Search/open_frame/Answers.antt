use Rattle.std.proofs.Common.{◌≡◌, ◌-◌, ℕ, length, refl, subst, arith}
use Rattle.candidate_store.specs.Searches.{WithPivot, HoldsAssertsIn}
use Rattle.kept_asserts.proofs.Ranked.{where_some}
use Rattle.candidate_store.proofs.Wholes.{asserts_new, frame_again}
use Rattle.candidate_store.proofs.search.Search.open_frame.Goals as goal

pub assert_step-requires-clause-all : goal.assert_step-requires-clause-all
assert_step-requires-clause-all g c =
    let problem = c.args.self.now.problem.now in
    let bounds = c.args.self.now.bounds.now in
    let whole = g.V.View.context c.args.self.now.view.now in
    let frames = c.args.frames.now in
    let keys = c.add_asserts_with.new.asserts in
    let n : c.len-newest.result - 1 ≡ length frames = omega (arith, c.len-newest.ensures.number, c.requires.each) in
    let P : ℕ → Type 0 = λ z. HoldsAssertsIn problem bounds whole (λ k place tuple. WithPivot z k tuple) keys in
    asserts_new problem whole (length frames) c.requires.each bounds c.args.asserts.now keys c.requires.asserts c.in_ok-add_asserts_with.ensures.kept (subst P n c.in_ok-add_asserts_with.ensures.added)

pub returns-in-Some-clause-frame : goal.returns-in-Some-clause-frame
returns-in-Some-clause-frame g c =
    let problem = c.args.self.now.problem.now in
    let bounds = c.args.self.now.bounds.now in
    let whole = g.V.View.context c.args.self.now.view.now in
    let frames = c.args.frames.now in
    frame_again problem whole (length frames) c.requires.each bounds frames refl c.requires.some c.requires.frames c.last_of.result.now c.last_of.ensures c.same_search.result _ c.same_search.ensures (where_some c.in_ok-step.field-0 c.in-Some.step _ c.in-Some.is c.in_ok-step.ensures.some)
