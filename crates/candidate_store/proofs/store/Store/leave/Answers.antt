use Rattle.std.proofs.Common.{◌≡◌, List, [], ◌∷◌, ◌++◌, length, sym, ap, ◌∙◌, refl, arith}
use Rattle.me_terms.specs.declared.bounds.TheConstants.{MAX_ENTRIES}
use Rattle.candidate_store.specs.Kept.{FrameValue}
use Rattle.candidate_store.proofs.Stored.{some_left, left_one}
use Rattle.candidate_store.proofs.store.Store.leave.Goals as goal

pub take_out-requires : goal.take_out-requires
take_out-requires c =
    let stands = rw (← c.self.view_is) at c.requires.stands in
    let same : c.len.result ≡ length c.self.inside.frames.items = omega arith in
    let left = some_left stands.0 stands.2 _ MAX_ENTRIES stands.3.kept (omega (arith, same, c.if-len-le1.false)) stands.4 in
    record { fits = (stands.0, left.0, left.1, left.2, left.3, left.4, left.5) }

pub returns-clause-left : goal.returns-clause-left
returns-clause-left c problem bounds context e given some =
    let stands = rw (← c.self.view_is) at given in
    let out = c.take_out.ensures in
    let f = c.in-Some._frame in (
      left_one problem bounds context e _ c.take_out.new.self f stands some (out.notes context e stands.kept.notes) (out.pairs problem context e stands.kept.pairs some)
          (c.in-Some.ensures.items ∙ ap (λ (z : List FrameValue). z ++ f ∷ []) (sym out.frames)) out.bounds out.stale,
      refl,
    )
