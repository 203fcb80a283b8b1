use Rattle.std.proofs.Common.{ℕ, List, length, refl, sym, subst}
use Rattle.candidate_store.specs.Searches.{PivotFrom, HaveUnifiersIn}
use Rattle.candidate_keys.specs.Keys.{UnifierKeyValue}
use Rattle.candidate_store.specs.Firsts.{HaveAll}
use Rattle.candidate_store.proofs.Wholes.{all_found, split_framed}
use Rattle.candidate_store.proofs.search.Search.split_frame.Goals as goal

pub split_step-requires-clause-all : goal.split_step-requires-clause-all
split_step-requires-clause-all g c =
    let problem = c.args.self.now.problem.now in
    let bounds = c.args.self.now.bounds.now in
    let whole = g.V.View.context c.args.self.now.view.now in
    let frames = c.args.frames.now in
    let P : ℕ → Type 0 = λ z. HaveUnifiersIn problem bounds whole (PivotFrom z) c.in_ok-unifiers.unifiers.items in
    let Q : List UnifierKeyValue → Type 0 = λ z. HaveAll problem bounds whole frames z in
    subst Q (sym c.deref.ensures.value)
    (all_found problem whole (length frames) c.requires.each bounds frames refl c.requires.some c.requires.frames c.last_of-last.result.now c.last_of-last.ensures c.requires.open c.in_ok-unifiers.unifiers.items
    (subst P c.positions.ensures c.in_ok-unifiers.ensures))

pub returns : goal.returns
returns g c =
    let problem = c.args.self.now.problem.now in
    let bounds = c.args.self.now.bounds.now in
    let whole = g.V.View.context c.args.self.now.view.now in
    let frames = c.args.frames.now in
    let P : ℕ → Type 0 = λ z. HaveUnifiersIn problem bounds whole (PivotFrom z) c.in_ok-unifiers.unifiers.items in
    split_framed problem whole (length frames) c.requires.each bounds frames refl c.requires.some c.requires.frames c.last_of-last.result.now c.last_of-last.ensures c.requires.open _
    c.in_ok-step.ensures (subst P c.positions.ensures c.in_ok-unifiers.ensures) c.len.ensures.number
