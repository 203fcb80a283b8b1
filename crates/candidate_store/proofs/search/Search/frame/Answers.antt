use Rattle.std.proofs.Common.{length, refl, sym, subst}
use Rattle.me_terms.specs.Next.{NextValue, IsNext}
use Rattle.std.proofs.Common.{take}
use Rattle.candidate_store.proofs.Wholes.{top_next, asserts_settled}
use Rattle.candidate_store.proofs.search.Search.frame.Goals as goal

pub new_frame-requires-clause-open : goal.new_frame-requires-clause-open
new_frame-requires-clause-open g c =
    let problem = c.args.self.now.problem.now in
    let bounds = c.args.self.now.bounds.now in
    let whole = g.V.View.context c.args.self.now.view.now in
    let frames = c.args.frames.now in
    let top = top_next problem whole (length frames) c.requires.each bounds frames refl c.requires.some c.requires.frames c.last_of.result.now c.last_of.ensures in
    let P : NextValue → Type 0 = λ z. IsNext problem bounds (take (length frames) whole) z in
    (c.is_settled.ensures c.if-is_settled.true problem bounds (take (length frames) whole) (subst P (sym c.next.ensures) top)).0

pub new_frame-requires-clause-asserts : goal.new_frame-requires-clause-asserts
new_frame-requires-clause-asserts g c =
    let problem = c.args.self.now.problem.now in
    let bounds = c.args.self.now.bounds.now in
    let whole = g.V.View.context c.args.self.now.view.now in
    let frames = c.args.frames.now in
    let top = top_next problem whole (length frames) c.requires.each bounds frames refl c.requires.some c.requires.frames c.last_of.result.now c.last_of.ensures in
    let P : NextValue → Type 0 = λ z. IsNext problem bounds (take (length frames) whole) z in
    asserts_settled problem bounds (take (length frames) whole) c.args.is_fresh c.args.asserts.now (c.is_settled.ensures c.if-is_settled.true problem bounds (take (length frames) whole) (subst P (sym c.next.ensures) top)) c.requires.asserts
